-- What any bytes bring, whatever the reader's rows and limit: the good packets at the places where the scan stands. `held_any` says that the scan
-- of any bytes takes in just that, one after the other.
use Rattle.std.proofs.Common.{◌≡◌, ℕ, zero, suc, ◌+◌, ◌-◌, ◌%◌, ◌<◌, ◌≤◌, Bool, true, false, cond, ltb, leb, List, [], ◌∷◌, ◌++◌, length, take, drop, ap, ap₂, arith, eqb-true, le-ltb, le_of_suc-le-suc, leb-true, length-append, length-drop, length-take, length-take-le, lt-ltb, ltb-false, ltb-true, refl, sym, take-append-drop, take-take, ◌∙◌}
use Rattle.std.proofs.Math.Seq.{take-append_seam}
use Rattle.std.proofs.lemmas.Bool.{and_parts, cond_both}
use Rattle.std.specs.List.{AllByRecursion}
use Rattle.format.specs.Bytes.{same, little}
use Rattle.format.specs.Packet.{magic, magic_of, length_of, usable_length}
use Rattle.types.specs.declared.VolumeEnd.{VolumeEnd}
use Rattle.types.specs.declared.VolumeEnd.TheVariants.{Truncated}
use Rattle.rules.specs.Rows.{unwanted}
use Rattle.rules.specs.Scan.{Ask, State, Step, stop, go, Ended, exponent_of, row_of, seen_one, corrupt_one, hashed, digest_right}
use Rattle.rules.specs.Scan.{agree, tail_end, header, stray, resync, past, ours, long_packet, packet, step, scan}
use Rattle.rules.specs.Good.{Whole, Found, found_in, good}
use Rattle.rules.proofs.Tests.{by-test}
use Rattle.rules.proofs.Runs.{part-append, same-eq}
use Rattle.rules.proofs.Steps.{scan-go, scan-stop, step-tail, step-junk, step-packet, header-long}
use Rattle.rules.proofs.Window.{resync-at, stray-le}
use Rattle.rules.proofs.Packet.{effect, step-whole, header_at, length_at, longer}
use Rattle.rules.proofs.Held.{held_of, take_in_all, take-cond, held-effect}

pub data Bring : Type 0 where
  nothing : Bring
  pass : ℕ → Bring
  find : ℕ → Found → Bring

-- a whole packet that starts the list
abbrev whole_packet : List ℕ → List ℕ
whole_packet bs = take (length_of bs) bs

unfoldable pub bring : List ℕ → ℕ → List ℕ → Bring
bring set size bs =
    cond (ltb (length bs) 64) nothing
    (cond (header bs)
    (cond (ltb (length bs) (length_of bs)) nothing
    (cond (good set size (whole_packet bs)) (find (length_of bs) (found_in size (whole_packet bs))) (pass (length_of bs))))
    (pass (resync bs)))

unfoldable pub collect : (ℕ → List Found) → Bring → List Found
collect cont nothing = []
collect cont (pass n) = cont (n - 1)
collect cont (find n f) = f ∷ cont (n - 1)

unfoldable pub brings : List ℕ → ℕ → List ℕ → ℕ → List Found
brings set size [] n = []
brings set size (x ∷ xs) (suc n) = brings set size xs n
brings set size (x ∷ xs) zero = collect (λ n. brings set size xs n) (bring set size (x ∷ xs))

-- a packet that is cut changes no row and no store byte
Cut : State → Step → Type 0
Cut s x = (t : State) × (x ≡ stop Truncated t) × (held_of t ≡ held_of s)

module _ (a : Ask) (bs : List ℕ) (s : State) (l : length bs < length_of bs) where
  cut-past : (t u : State) → held_of t ≡ held_of s → Cut s (past bs t u)
  unfolding past Cut
  cut-past t u e = (t, rw (lt-ltb (length bs) (length_of bs) l), e)

  cut-packet : Cut s (packet a bs s)
  unfolding packet long_packet Cut
  cut-packet =
      cond_both (ours a.set bs) _ _ (Cut s)
      (λ _. cond_both (ltb (length_of bs - 64) (4 + a.size)) _ _ (Cut s) (λ _. cut-past (corrupt_one s) (corrupt_one s) refl)
      (λ _. cond_both (ltb (length bs) 68) _ _ (Cut s) (λ _. (s, refl, refl))
      (λ _. cond_both (unwanted a.limit s.rows (exponent_of bs)) _ _ (Cut s) (λ _. cut-past (seen_one s) (seen_one s) refl)
      (λ _. cut-past s (hashed a bs s) refl))))
      (λ _. cut-past s s refl)

-- a header whose packet is all there
module _ (bs : List ℕ) (big : 64 ≤ length bs) (h : header bs ≡ true) (all : length_of bs ≤ length bs) where
  usable : usable_length (length_of bs) ≡ true
  unfolding header
  usable = (and_parts (same (magic_of bs) magic) (usable_length (length_of bs)) h).1

  starts : magic_of bs ≡ magic
  unfolding header
  starts = same-eq (magic_of bs) magic (and_parts (same (magic_of bs) magic) (usable_length (length_of bs)) h).0

  long : 64 ≤ length_of bs
  long = header-long bs h

  fours : length_of bs % 4 ≡ 0
  unfolding usable_length
  fours = eqb-true (length_of bs % 4) 0 (and_parts (leb 64 (length_of bs)) _ usable).1

  size_is : length (whole_packet bs) ≡ length_of bs
  size_is = length-take-le (length_of bs) bs all

  parts : whole_packet bs ++ drop (length_of bs) bs ≡ bs
  parts = take-append-drop (length_of bs) bs

  is_whole : Whole (whole_packet bs)
  is_whole =
      record {
        starts = take-take 8 (length_of bs) bs (omega (arith, long)) ∙ starts;
        all =
            sym (ap little (part-append 8 8 (whole_packet bs) (drop (length_of bs) bs) (omega (arith, long, size_is))))
            ∙ ap (λ (l : List ℕ). length_of l) parts ∙ sym size_is;
        long = omega (arith, long, size_is);
        fours = ap (λ (n : ℕ). n % 4) size_is ∙ fours;
      }

  bring-whole : (set : List ℕ) (size : ℕ)
      → bring set size bs ≡ cond (good set size (whole_packet bs)) (find (length_of bs) (found_in size (whole_packet bs))) (pass (length_of bs))
  unfolding bring
  bring-whole set size = simp (le-ltb (length bs) 64 big, h, le-ltb (length bs) (length_of bs) all)

  step-there : (a : Ask) (s : State) → step a bs s ≡ go (length_of bs) (effect a (whole_packet bs) s)
  step-there a s =
      ap (λ (l : List ℕ). step a l s) (sym parts)
      ∙ step-whole (whole_packet bs) (drop (length_of bs) bs) is_whole a s
      ∙ ap (λ (n : ℕ). go n (effect a (whole_packet bs) s)) size_is

bring-tail : (set : List ℕ) (size : ℕ) (bs : List ℕ) → length bs < 64 → bring set size bs ≡ nothing
unfolding bring
bring-tail set size bs l = rw (lt-ltb (length bs) 64 l)

bring-junk : (set : List ℕ) (size : ℕ) (bs : List ℕ) → 64 ≤ length bs → header bs ≡ false → bring set size bs ≡ pass (resync bs)
unfolding bring
bring-junk set size bs l h = simp (le-ltb (length bs) 64 l, h)

bring-cut : (set : List ℕ) (size : ℕ) (bs : List ℕ) → 64 ≤ length bs → header bs ≡ true → length bs < length_of bs → bring set size bs ≡ nothing
unfolding bring
bring-cut set size bs l h c = simp (le-ltb (length bs) 64 l, h, lt-ltb (length bs) (length_of bs) c)

-- where the list goes on from its first byte
brings-at : (set : List ℕ) (size : ℕ) (x : ℕ) (xs : List ℕ) (b : Bring) → bring set size (x ∷ xs) ≡ b
    → brings set size (x ∷ xs) 0 ≡ collect (λ n. brings set size xs n) b
unfolding brings
brings-at set size x xs b e = ap (collect (λ n. brings set size xs n)) e

collect-cond : (cont : ℕ → List Found) (g : Bool) (n : ℕ) (f : Found)
    → collect cont (cond g (find n f) (pass n)) ≡ cond g (f ∷ cont (n - 1)) (cont (n - 1))
unfolding collect
collect-cond cont true n f = refl
collect-cond cont false n f = refl

-- one step, with what holds of the bytes behind the first
module _ (a : Ask) (x : ℕ) (xs : List ℕ) (s : State)
    (on : (n : ℕ) (t : State) → held_of (scan a xs n t).state ≡ take_in_all a (brings a.set a.size xs n) (held_of t)) where
  abbrev Goal : Type 0
  Goal = held_of (scan a (x ∷ xs) 0 s).state ≡ take_in_all a (brings a.set a.size (x ∷ xs) 0) (held_of s)

  brought : (b : Bring) → bring a.set a.size (x ∷ xs) ≡ b
      → take_in_all a (brings a.set a.size (x ∷ xs) 0) (held_of s) ≡ take_in_all a (collect (λ n. brings a.set a.size xs n) b) (held_of s)
  brought b e = ap (λ (fs : List Found). take_in_all a fs (held_of s)) (brings-at a.set a.size x xs b e)

  at-stop : (e : VolumeEnd) (t : State) → step a (x ∷ xs) s ≡ stop e t → held_of t ≡ held_of s → bring a.set a.size (x ∷ xs) ≡ nothing → Goal
  unfolding collect take_in_all
  at-stop e t p q b = ap (λ (u : Ended). held_of u.state) (scan-stop a x xs s t e p) ∙ q ∙ sym (brought nothing b)

  at-pass : (n : ℕ) → step a (x ∷ xs) s ≡ go n s → bring a.set a.size (x ∷ xs) ≡ pass n → Goal
  unfolding collect
  at-pass n p b = ap (λ (u : Ended). held_of u.state) (scan-go a x xs s s n p) ∙ on (n - 1) s ∙ sym (brought (pass n) b)

  at-packet : 64 ≤ length (x ∷ xs) → header (x ∷ xs) ≡ true → length_of (x ∷ xs) ≤ length (x ∷ xs) → Goal
  at-packet l h all =
      let p : List ℕ = whole_packet (x ∷ xs) in
      ap (λ (u : Ended). held_of u.state) (scan-go a x xs s (effect a p s) (length_of (x ∷ xs)) (step-there (x ∷ xs) l h all a s))
      ∙ on (length_of (x ∷ xs) - 1) (effect a p s)
      ∙ ap (take_in_all a (brings a.set a.size xs (length_of (x ∷ xs) - 1))) (held-effect a p s)
      ∙ take-cond a (good a.set a.size p) (found_in a.size p) (brings a.set a.size xs (length_of (x ∷ xs) - 1)) (held_of s)
      ∙ sym (ap (λ (fs : List Found). take_in_all a fs (held_of s))
      (brings-at a.set a.size x xs _ (bring-whole (x ∷ xs) l h all a.set a.size)
      ∙ collect-cond (λ n. brings a.set a.size xs n) (good a.set a.size p) (length_of (x ∷ xs)) (found_in a.size p)))

  at_cut : 64 ≤ length (x ∷ xs) → header (x ∷ xs) ≡ true → length (x ∷ xs) < length_of (x ∷ xs) → Goal
  unfolding Cut
  at_cut l h c =
      let cut : Cut s (packet a (x ∷ xs) s) = cut-packet a (x ∷ xs) s c in
      at-stop Truncated cut.0 (step-packet a (x ∷ xs) s l h ∙ cut.1) cut.2 (bring-cut a.set a.size (x ∷ xs) l h c)

  at-any : Goal
  at-any =
      by-test (ltb (length (x ∷ xs)) 64)
      (λ t. at-stop (tail_end (x ∷ xs)) s (step-tail a (x ∷ xs) s (ltb-true _ _ t)) refl (bring-tail a.set a.size (x ∷ xs) (ltb-true _ _ t)))
      (λ t. by-test (header (x ∷ xs))
      (λ h. by-test (ltb (length (x ∷ xs)) (length_of (x ∷ xs)))
      (λ c. at_cut (ltb-false _ _ t) h (ltb-true _ _ c))
      (λ c. at-packet (ltb-false _ _ t) h (ltb-false _ _ c)))
      (λ h. at-pass (resync (x ∷ xs)) (step-junk a (x ∷ xs) s (ltb-false _ _ t) h) (bring-junk a.set a.size (x ∷ xs) (ltb-false _ _ t) h)))

-- the rows and the store after the scan of any bytes
pub held_any : (a : Ask) (bs : List ℕ) (n : ℕ) (s : State) → held_of (scan a bs n s).state ≡ take_in_all a (brings a.set a.size bs n) (held_of s)
unfolding scan brings take_in_all
held_any a [] n s = refl
held_any a (x ∷ xs) (suc n) s = held_any a xs n s
held_any a (x ∷ xs) zero s = at-any a x xs s (λ n t. held_any a xs n t)

-- ---- Junk, in which no header stands, brings nothing

-- wherever 64 bytes are left from a place in j on, they are no header; rest is what follows j
abbrev pub Quiet : List ℕ → List ℕ → Type 0
Quiet [] rest = Unit {0}
Quiet (x ∷ j) rest = (64 ≤ length (x ∷ (j ++ rest)) → header (x ∷ (j ++ rest)) ≡ false) × Quiet j rest

module _ (set : List ℕ) (size : ℕ) where
  pub over-junk : (j rest : List ℕ) (k : ℕ) → k ≤ length j → 64 ≤ length rest → agree rest magic ≡ true → Quiet j rest
      → brings set size (j ++ rest) k ≡ brings set size rest 0
  unfolding brings collect
  over-junk [] rest zero h l m q = refl
  over-junk [] rest (suc k) h l m q = absurd (omega arith)
  over-junk (x ∷ j) rest (suc k) h l m q = over-junk j rest k (le_of_suc-le-suc h) l m q.1
  over-junk (x ∷ j) rest zero h l m q =
      let big : 64 ≤ length (x ∷ (j ++ rest)) = omega (arith, length-append j rest) in
      brings-at set size x (j ++ rest) _ (bring-junk set size (x ∷ (j ++ rest)) big (q.0 big))
      ∙ ap (λ (k : ℕ). brings set size (j ++ rest) k) (resync-at x (j ++ rest))
      ∙ over-junk j rest (stray (take 63 (j ++ rest))) (stray-le j rest 63 m) l m q.1

  pub junk-end : (j : List ℕ) (k : ℕ) → Quiet j [] → brings set size (j ++ []) k ≡ []
  unfolding brings collect
  junk-end [] k q = refl
  junk-end (x ∷ j) (suc k) q = junk-end j k q.1
  junk-end (x ∷ j) zero q =
      by-test (ltb (length (x ∷ (j ++ []))) 64)
      (λ t. brings-at set size x (j ++ []) _ (bring-tail set size (x ∷ (j ++ [])) (ltb-true _ _ t)))
      (λ t. brings-at set size x (j ++ []) _ (bring-junk set size (x ∷ (j ++ [])) (ltb-false _ _ t) (q.0 (ltb-false _ _ t)))
      ∙ junk-end j (resync (x ∷ (j ++ [])) - 1) q.1)

  beyond : (p q : List ℕ) → brings set size (p ++ q) (length p) ≡ brings set size q 0
  unfolding brings
  beyond [] q = refl
  beyond (x ∷ p) q = beyond p q

  -- a whole packet brings its row, if it is good
  bring-packet : (p q : List ℕ) → Whole p → bring set size (p ++ q) ≡ cond (good set size p) (find (length p) (found_in size p)) (pass (length p))
  bring-packet p q w =
      let whole_is : whole_packet (p ++ q) ≡ p = ap (λ (n : ℕ). take n (p ++ q)) (length_at p q w) ∙ take-append_seam p q in
      bring-whole (p ++ q) (omega (arith, w.long, longer p q w)) (header_at p q w) (omega (arith, length_at p q w, longer p q w)) set size
      ∙ ap₂ (λ (n : ℕ) (l : List ℕ). cond (good set size l) (find n (found_in size l)) (pass n)) (length_at p q w) whole_is

  pub over-packet : (p q : List ℕ) → Whole p → brings set size (p ++ q) 0 ≡ cond (good set size p) (found_in size p ∷ brings set size q 0) (brings set size q 0)
  over-packet [] q w = absurd (omega (arith, w.long))
  over-packet (x ∷ p) q w =
      brings-at set size x (p ++ q) _ (bring-packet (x ∷ p) q w)
      ∙ collect-cond (λ n. brings set size (p ++ q) n) (good set size (x ∷ p)) (suc (length p)) (found_in size (x ∷ p))
      ∙ ap (λ (fs : List Found). cond (good set size (x ∷ p)) (found_in size (x ∷ p) ∷ fs) fs)
      (ap (λ (n : ℕ). brings set size (p ++ q) n) (omega arith) ∙ beyond p q)

-- ---- What is brought are full slices

good-long : (set : List ℕ) (size : ℕ) (p : List ℕ) → good set size p ≡ true → length (row_of size p) ≡ size
unfolding good
good-long set size p g =
    let l = leb-true (4 + size) (length p - 64) (and_parts (ours set p) _ (and_parts _ (digest_right p) g).0).1 in
    simp (length-take, length-drop) (omega arith)

abbrev Sized : ℕ → Bring → Type 0
Sized size nothing = Unit {0}
Sized size (pass n) = Unit {0}
Sized size (find n f) = length f.bytes ≡ size

sized-bring : (set : List ℕ) (size : ℕ) (bs : List ℕ) → Sized size (bring set size bs)
unfolding bring
sized-bring set size bs =
    cond_both (ltb (length bs) 64) _ _ (Sized size) (λ _. tt)
    (λ _. cond_both (header bs) _ _ (Sized size)
    (λ _. cond_both (ltb (length bs) (length_of bs)) _ _ (Sized size) (λ _. tt)
    (λ _. cond_both (good set size (take (length_of bs) bs)) _ _ (Sized size) (good-long set size (take (length_of bs) bs)) (λ _. tt)))
    (λ _. tt))

sized-collect : (size : ℕ) (cont : ℕ → List Found) (b : Bring) → Sized size b → ((n : ℕ) → AllByRecursion (λ f. length f.bytes ≡ size) (cont n))
    → AllByRecursion (λ f. length f.bytes ≡ size) (collect cont b)
unfolding collect
sized-collect size cont nothing h k = tt
sized-collect size cont (pass n) h k = k (n - 1)
sized-collect size cont (find n f) h k = (h, k (n - 1))

pub sized : (set : List ℕ) (size : ℕ) (bs : List ℕ) (n : ℕ) → AllByRecursion (λ f. length f.bytes ≡ size) (brings set size bs n)
unfolding brings
sized set size [] n = tt
sized set size (x ∷ xs) (suc n) = sized set size xs n
sized set size (x ∷ xs) zero =
    sized-collect size (λ n. brings set size xs n) (bring set size (x ∷ xs)) (sized-bring set size (x ∷ xs)) (λ n. sized set size xs n)
