-- Taking in what good packets bring, one after the other, keeps the smallest exponents, each with the first data.
use Rattle.std.proofs.Common.{◌≡◌, ℕ, suc, ◌*◌, ◌<◌, ◌≤◌, Bool, true, false, ◌&&◌, ◌||◌, eqb, leb, List, [], ◌∷◌, ◌++◌, length, ap, append-nil, append_assoc, arith, eq-eqb, eqb-true, leb-false, leb-true, length-append, ne_eqb, refl, subst, sym, ◌∙◌}
use Rattle.std.proofs.Math.Seq.{paste}
use Rattle.std.proofs.lemmas.Bool.{and_parts, both_ways, eqb-false, false_from_ne_true, or_parts}
use Rattle.std.proofs.lemmas.List.{map-append, length-map}
use Rattle.std.specs.List.{AllByRecursion}
use Rattle.types.specs.declared.RowRecord.{RowRecord}
use Rattle.rules.specs.Rows.{exponents, slots, has, highest, unwanted, without, room, free, arrive, slot_data}
use Rattle.rules.specs.Scan.{Ask}
use Rattle.rules.specs.Reader.{repeats}
use Rattle.rules.specs.Good.{Found, found_exponents, first_data}
use Rattle.rules.proofs.Tests.{by-test, or_elim}
use Rattle.rules.proofs.Numbers.{In, Out, in_head, in_tail, in-cons, in-nil, in_append_left, in_append_right, in-last, different, out_of}
use Rattle.rules.proofs.Numbers.{repeats-nil, repeats-cons, repeats-head, repeats-tail, repeats-last, le-highest, highest-in}
use Rattle.rules.proofs.Numbers.{del, del-length, del-in, del-keep, del-repeats, del-gone, free-le, free-out}
use Rattle.rules.proofs.Store.{slot-here, slot-other, slot-length}
use Rattle.rules.proofs.Held.{Held, take_in, take_in_all}

-- lists
pub all_append : {A : Type 0} (P : A → Type 0) (xs ys : List A) → AllByRecursion P xs → AllByRecursion P ys → AllByRecursion P (xs ++ ys)
all_append P [] ys h k = k
all_append P (x ∷ xs) ys h k = (h.0, all_append P xs ys h.1 k)

-- what holds of each row holds still, where its exponent and slot are among the rows'
pub all_in : (P Q : RowRecord → Type 0) (rows : List RowRecord) → AllByRecursion P rows
    → ((r : RowRecord) → In r.exponent (exponents rows) → In r.slot (slots rows) → P r → Q r) → AllByRecursion Q rows
all_in P Q [] h f = tt
all_in P Q (r ∷ rows) h f = (
  f r (in_head r.exponent (exponents rows)) (in_head r.slot (slots rows)) h.0,
  all_in P Q rows h.1
      (λ x i j. f x (in_tail x.exponent r.exponent (exponents rows) i) (in_tail x.slot r.slot (slots rows) j)),
)

-- the rows without one
pub without-exponents : (x : ℕ) (rows : List RowRecord) → exponents (without x rows) ≡ del x (exponents rows)
unfolding without del
without-exponents x [] = refl
without-exponents x (r ∷ rows) =
    by-test (eqb r.exponent x) (λ t. rw t) (λ t. rw t (ap (λ (l : List ℕ). r.exponent ∷ l) (without-exponents x rows)))

pub without_all : (P : RowRecord → Type 0) (x : ℕ) (rows : List RowRecord) → AllByRecursion P rows → AllByRecursion P (without x rows)
unfolding without
without_all P x [] h = tt
without_all P x (r ∷ rows) h =
    by-test (eqb r.exponent x) (λ t. rw t h.1) (λ t. rw t (h.0, without_all P x rows h.1))

without-slot : (s x : ℕ) (rows : List RowRecord) → In s (slots (without x rows)) → In s (slots rows)
unfolding without
without-slot s x [] h = in-nil s h
without-slot s x (r ∷ rows) h =
    by-test (eqb r.exponent x)
    (λ t. in_tail s r.slot (slots rows) (rw t at h))
    (λ t. in-cons s r.slot (slots (without x rows)) (rw t at h)
    (λ e. rw e (in_head r.slot (slots rows)))
    (λ u. in_tail s r.slot (slots rows) (without-slot s x rows u)))

without-slots : (x : ℕ) (rows : List RowRecord) → repeats (slots rows) ≡ false → repeats (slots (without x rows)) ≡ false
unfolding without
without-slots x [] h = h
without-slots x (r ∷ rows) h =
    by-test (eqb r.exponent x)
    (λ t. rw t (repeats-tail r.slot (slots rows) h))
    (λ t. rw t
    (repeats-cons r.slot (slots (without x rows))
    (out_of r.slot (slots (without x rows)) (slots rows) (without-slot r.slot x rows) (repeats-head r.slot (slots rows) h))
    (without-slots x rows (repeats-tail r.slot (slots rows) h))))

-- the data of the first
first-in : (e : ℕ) (fs gs : List Found) → In e (found_exponents fs) → first_data e (fs ++ gs) ≡ first_data e fs
unfolding first_data
first-in e [] gs h = in-nil e h
first-in e (f ∷ fs) gs h =
    by-test (eqb e f.exponent)
    (λ t. rw t)
    (λ t. rw t (in-cons e f.exponent (found_exponents fs) h (λ q. absurd (eqb-false e f.exponent t q)) (λ i. first-in e fs gs i)))

first-new : (fs : List Found) (f : Found) → Out f.exponent (found_exponents fs) → first_data f.exponent (fs ++ (f ∷ [])) ≡ f.bytes
unfolding first_data
first-new [] f o = rw (eq-eqb f.exponent f.exponent refl)
first-new (g ∷ fs) f o =
    rw (ne_eqb f.exponent g.exponent (λ e. both_ways (has f.exponent (found_exponents (g ∷ fs))) o (rw e (in_head g.exponent (found_exponents fs)))))
    (first-new fs f (out_of f.exponent (found_exponents fs) (found_exponents (g ∷ fs)) (in_tail f.exponent g.exponent (found_exponents fs)) o))

pub highest-mem : (xs : List ℕ) → 0 < length xs → In (highest xs) xs
highest-mem [] h = absurd (omega arith)
highest-mem (x ∷ xs) h = highest-in x xs

-- the tests of an exponent that is wanted, or isn't
module _ (limit : ℕ) (rows : List RowRecord) (e : ℕ) where
  abbrev old : Bool
  old = eqb limit 0 || has e (exponents rows)

  abbrev over : Bool
  over = leb limit (length rows) && leb (highest (exponents rows)) e

  want-pos : unwanted limit rows e ≡ false → 0 < limit
  unfolding unwanted
  want-pos w = omega (arith, eqb-false limit 0 (or_parts (eqb limit 0) (has e (exponents rows)) (or_parts old over w).0).0)

  pub want-new : unwanted limit rows e ≡ false → Out e (exponents rows)
  unfolding unwanted
  want-new w = (or_parts (eqb limit 0) (has e (exponents rows)) (or_parts old over w).0).1

  want-order : unwanted limit rows e ≡ false → leb limit (length rows) ≡ true → e < highest (exponents rows)
  unfolding unwanted
  want-order w f = leb-false (highest (exponents rows)) e (rw f at (or_parts old over w).1)

  -- not wanted and not kept: limit 0, or rows at the limit and none above it
  spurn : {P : Type 0} → unwanted limit rows e ≡ true → Out e (exponents rows) → (limit ≡ 0 → P)
      → (limit ≤ length rows → highest (exponents rows) ≤ e → P) → P
  unfolding unwanted
  spurn w o f g =
      or_elim old over w
      (λ t. or_elim (eqb limit 0) (has e (exponents rows)) t (λ z. f (eqb-true limit 0 z)) (λ h. absurd (both_ways (has e (exponents rows)) o h)))
      (λ t.
      g (leb-true limit (length rows) (and_parts _ (leb (highest (exponents rows)) e) t).0)
      (leb-true (highest (exponents rows)) e (and_parts (leb limit (length rows)) _ t).1))

-- what holds after the packets fs were taken in
pub record Inv (limit size capacity : ℕ) (fs : List Found) (h : Held) : Type 0 where
  pub once : repeats (exponents h.rows) ≡ false
  pub apart : repeats (slots h.rows) ≡ false
  pub below : AllByRecursion (λ r. r.slot < capacity) h.rows
  pub few : length h.rows ≤ limit
  pub found : (e : ℕ) → In e (exponents h.rows) → In e (found_exponents fs)
  pub left : (f : ℕ) → In f (found_exponents fs) → Out f (exponents h.rows)
      → (length h.rows ≡ limit) × ((e : ℕ) → In e (exponents h.rows) → e < f)
  pub first : AllByRecursion (λ r. slot_data size h.store r.slot ≡ first_data r.exponent fs) h.rows
  pub long : capacity * size ≤ length h.store

-- the same before the row of exponent e arrives, which is new: there is room for it
pub record Room (limit size capacity : ℕ) (fs : List Found) (e : ℕ) (rows : List RowRecord) (store : List ℕ) : Type 0 where
  pub once : repeats (exponents rows) ≡ false
  pub apart : repeats (slots rows) ≡ false
  pub below : AllByRecursion (λ r. r.slot < capacity) rows
  pub few : length rows < limit
  pub found : (k : ℕ) → In k (exponents rows) → In k (found_exponents fs)
  pub left : (f : ℕ) → In f (found_exponents fs) → Out f (exponents rows)
      → (suc (length rows) ≡ limit) × ((k : ℕ) → In k (exponents rows) → k < f) × (e < f)
  pub first : AllByRecursion (λ r. slot_data size store r.slot ≡ first_data r.exponent fs) rows
  pub long : capacity * size ≤ length store
  pub new : Out e (exponents rows)
  pub unseen : Out e (found_exponents fs)

module _ (limit size capacity : ℕ) (fits : limit ≤ capacity) (fs : List Found) (h : Held) (inv : Inv limit size capacity fs h) where
  rows-length : length (exponents h.rows) ≡ length h.rows
  rows-length = length-map h.rows (λ r. r.exponent)

  -- with rows at a limit that isn't 0 the highest is among them
  top : length h.rows ≡ limit → 0 < limit → In (highest (exponents h.rows)) (exponents h.rows)
  top l p = highest-mem (exponents h.rows) (omega (arith, rows-length))

  module _ (e : ℕ) (pos : 0 < limit) (new : Out e (exponents h.rows)) where
    -- rows below the limit
    roomy : length h.rows < limit → Room limit size capacity fs e h.rows h.store
    roomy l =
        record {
          once = inv.once;
          apart = inv.apart;
          below = inv.below;
          few = l;
          found = inv.found;
          left = λ f i o. absurd (omega (arith, (inv.left f i o).0));
          first = inv.first;
          long = inv.long;
          new = new;
          unseen = false_from_ne_true (has e (found_exponents fs)) (λ i. omega (arith, (inv.left e i new).0));
        }

    -- rows at the limit, and e below the highest
    module _ (l : length h.rows ≡ limit) (low : e < highest (exponents h.rows)) where
      abbrev hi : ℕ
      hi = highest (exponents h.rows)

      abbrev others : List RowRecord
      others = without hi h.rows

      kept : exponents others ≡ del hi (exponents h.rows)
      kept = without-exponents hi h.rows

      count : suc (length others) ≡ limit
      count =
          omega (arith, rows-length, del-length hi (exponents h.rows) (top l pos), ap length kept, length-map others (λ r. r.exponent))

      sub : (k : ℕ) → In k (exponents others) → In k (exponents h.rows)
      sub k i = del-in k hi (exponents h.rows) (rw kept at i)

      less : (k : ℕ) → In k (exponents others) → k < hi
      less k i =
          omega (
            arith,
            le-highest k (exponents h.rows) (sub k i),
            different k hi (del hi (exponents h.rows)) (rw kept at i) (del-gone hi (exponents h.rows) inv.once),
          )

      passed : (f : ℕ) → (f ≡ hi → ⊥) → Out f (exponents others) → Out f (exponents h.rows)
      passed f n o =
          out_of f (exponents h.rows) (exponents others) (λ i. rw kept (del-keep f hi (exponents h.rows) n i)) o

      full-left : (f : ℕ) → In f (found_exponents fs) → Out f (exponents others)
          → (suc (length others) ≡ limit) × ((k : ℕ) → In k (exponents others) → k < f) × (e < f)
      full-left f i o =
          by-test (eqb f hi)
          (λ t. let top_is = eqb-true f hi t in (count, λ k j. omega (arith, less k j), omega arith))
          (λ t. let was = (inv.left f i (passed f (eqb-false f hi t) o)).1 in (count, λ k j. was k (sub k j), omega (arith, was hi (top l pos))))

      full : Room limit size capacity fs e others h.store
      full =
          record {
            once = rw kept (del-repeats hi (exponents h.rows) inv.once);
            apart = without-slots hi h.rows inv.apart;
            below = without_all (λ r. r.slot < capacity) hi h.rows inv.below;
            few = omega (arith, count);
            found = λ k i. inv.found k (sub k i);
            left = full-left;
            first = without_all (λ r. slot_data size h.store r.slot ≡ first_data r.exponent fs) hi h.rows inv.first;
            long = inv.long;
            new = out_of e (exponents others) (exponents h.rows) (sub e) new;
            unseen = false_from_ne_true (has e (found_exponents fs)) (λ i. omega (arith, (inv.left e i new).1 hi (top l pos)));
          }

  want-room : (e : ℕ) → unwanted limit h.rows e ≡ false → Room limit size capacity fs e (room limit h.rows) h.store
  unfolding room
  want-room e w =
      let pos = want-pos limit h.rows e w in
      let new = want-new limit h.rows e w in
      by-test (leb limit (length h.rows))
      (λ t. rw t
      (full e pos new (omega (arith, inv.few, leb-true limit (length h.rows) t)) (want-order limit h.rows e w t)))
      (λ t. rw t (roomy e pos new (leb-false limit (length h.rows) t)))

  -- an exponent that isn't wanted
  spurned : (e : ℕ) → unwanted limit h.rows e ≡ true → Out e (exponents h.rows)
      → (length h.rows ≡ limit) × ((k : ℕ) → In k (exponents h.rows) → k < e)
  spurned e w o =
      spurn limit h.rows e w o
      (λ z. (omega (arith, inv.few), λ k i. omega (arith, inv.few, rows-length, del-length k (exponents h.rows) i)))
      (λ l t. (omega (arith, inv.few), λ k i. omega (arith, le-highest k (exponents h.rows) i, different k e (exponents h.rows) i o)))

  -- a packet whose row isn't wanted
  passed_over : (f : Found) → unwanted limit h.rows f.exponent ≡ true → Inv limit size capacity (fs ++ (f ∷ [])) h
  passed_over f w =
      record {
        once = inv.once;
        apart = inv.apart;
        below = inv.below;
        few = inv.few;
        found = λ e i. rw map-append (in_append_left e (found_exponents fs) (f.exponent ∷ []) (inv.found e i));
        left = λ e i o.
            in-last e (found_exponents fs) f.exponent (rw map-append at i) (λ t. inv.left e t o)
            (λ t. rw t (spurned f.exponent w (rw t at o)));
        first =
            all_in (λ r. slot_data size h.store r.slot ≡ first_data r.exponent fs)
            (λ r. slot_data size h.store r.slot ≡ first_data r.exponent (fs ++ (f ∷ []))) h.rows inv.first
            (λ r i j p. p ∙ sym (first-in r.exponent fs (f ∷ []) (inv.found r.exponent i)));
        long = inv.long;
      }

-- the new row arrives, in the lowest slot that no row uses
module _ (limit size capacity : ℕ) (fits : limit ≤ capacity) (fs : List Found) (f : Found) (sized : length f.bytes ≡ size)
    (rows : List RowRecord) (store : List ℕ) (at : Room limit size capacity fs f.exponent rows store) where
  abbrev new_row : RowRecord
  new_row = record { exponent = f.exponent; slot = free rows }

  slot-out : Out (free rows) (slots rows)
  unfolding free
  slot-out = rw (length-map rows (λ r. r.slot)) at (free-out (slots rows))

  slot-low : free rows < capacity
  unfolding free
  slot-low = omega (arith, free-le (length rows) 0 (slots rows), at.few)

  arrived-left : (g : ℕ) → In g (found_exponents (fs ++ (f ∷ []))) → Out g (exponents (rows ++ (new_row ∷ [])))
      → (length (rows ++ (new_row ∷ [])) ≡ limit) × ((e : ℕ) → In e (exponents (rows ++ (new_row ∷ []))) → e < g)
  arrived-left g i o =
      in-last g (found_exponents fs) f.exponent (rw map-append at i)
      (λ t.
      let was =
      at.left g t
      (out_of g (exponents rows) (exponents (rows ++ (new_row ∷ []))) (λ u. rw map-append (in_append_left g (exponents rows) (f.exponent ∷ []) u)) o)
      in (
        omega (arith, length-append rows (new_row ∷ []), was.0),
        λ k j. in-last k (exponents rows) f.exponent (rw map-append at j) (was.1 k) (λ u. omega (arith, was.2)),
      ))
      (λ t.
      absurd (both_ways (has g (exponents (rows ++ (new_row ∷ [])))) o
      (rw (map-append, t) (in_append_right f.exponent (exponents rows) (f.exponent ∷ []) (in_head f.exponent [])))))

  arrived-first : AllByRecursion (λ r. slot_data size (paste store (free rows * size) f.bytes size) r.slot ≡ first_data r.exponent (fs ++ (f ∷ []))) (rows ++ (new_row ∷ []))
  arrived-first =
      all_append (λ r. slot_data size (paste store (free rows * size) f.bytes size) r.slot ≡ first_data r.exponent (fs ++ (f ∷ []))) rows (new_row ∷ [])
      (all_in (λ r. slot_data size store r.slot ≡ first_data r.exponent fs)
      (λ r. slot_data size (paste store (free rows * size) f.bytes size) r.slot ≡ first_data r.exponent (fs ++ (f ∷ []))) rows at.first
      (λ r i j p.
      slot-other size capacity (free rows) f.bytes store sized slot-low at.long r.slot (different r.slot (free rows) (slots rows) j slot-out)
      ∙ p ∙ sym (first-in r.exponent fs (f ∷ []) (at.found r.exponent i))))
      (slot-here size capacity (free rows) f.bytes store sized slot-low at.long ∙ sym (first-new fs f at.unseen), tt)

  arrived : Inv limit size capacity (fs ++ (f ∷ [])) (record { rows = rows ++ (new_row ∷ []); store = paste store (free rows * size) f.bytes size })
  arrived =
      record {
        once = rw map-append (repeats-last (exponents rows) f.exponent at.once at.new);
        apart = rw map-append (repeats-last (slots rows) (free rows) at.apart slot-out);
        below = all_append (λ r. r.slot < capacity) rows (new_row ∷ []) at.below (slot-low, tt);
        few = omega (arith, length-append rows (new_row ∷ []), at.few);
        found = λ e i.
            in-last e (exponents rows) f.exponent (rw map-append at i)
            (λ t. rw map-append (in_append_left e (found_exponents fs) (f.exponent ∷ []) (at.found e t)))
            (λ t. rw (map-append, t) (in_append_right f.exponent (found_exponents fs) (f.exponent ∷ []) (in_head f.exponent [])));
        left = arrived-left;
        first = arrived-first;
        long = rw (slot-length size capacity (free rows) f.bytes store sized slot-low at.long) at.long;
      }

-- one good packet
pub inv-take_in : (a : Ask) (capacity : ℕ) (fs : List Found) (f : Found) (h : Held) → a.limit ≤ capacity → length f.bytes ≡ a.size
    → Inv a.limit a.size capacity fs h → Inv a.limit a.size capacity (fs ++ (f ∷ [])) (take_in a f h)
unfolding take_in arrive
inv-take_in a capacity fs f h fits sized inv =
    by-test (unwanted a.limit h.rows f.exponent)
    (λ w. rw w (passed_over a.limit a.size capacity fits fs h inv f w))
    (λ w. rw w
    (arrived a.limit a.size capacity fits fs f sized (room a.limit h.rows) h.store
    (want-room a.limit a.size capacity fits fs h inv f.exponent w)))

-- all good packets
pub inv-take_in_all : (a : Ask) (capacity : ℕ) (fs gs : List Found) (h : Held) → a.limit ≤ capacity → AllByRecursion (λ f. length f.bytes ≡ a.size) gs
    → Inv a.limit a.size capacity fs h → Inv a.limit a.size capacity (fs ++ gs) (take_in_all a gs h)
unfolding take_in_all
inv-take_in_all a capacity fs [] h fits sized inv = rw append-nil inv
inv-take_in_all a capacity fs (g ∷ gs) h fits sized inv =
    subst (λ (l : List Found). Inv a.limit a.size capacity l (take_in_all a gs (take_in a g h))) (append_assoc fs (g ∷ []) gs)
    (inv-take_in_all a capacity (fs ++ (g ∷ [])) gs (take_in a g h) fits sized.1 (inv-take_in a capacity fs g h fits sized.0 inv))

-- before the first
pub begin : (limit size capacity : ℕ) (store : List ℕ) → capacity * size ≤ length store → Inv limit size capacity [] (record { rows = []; store = store })
begin limit size capacity store l =
    record {
      once = repeats-nil;
      apart = repeats-nil;
      below = tt;
      few = omega arith;
      found = λ e i. in-nil e i;
      left = λ f i o. in-nil f i;
      first = tt;
      long = l;
    }
