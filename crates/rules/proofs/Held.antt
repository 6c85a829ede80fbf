-- What a good packet does to the rows and the store, and a whole one in general.
use Rattle.std.proofs.Common.{◌≡◌, ℕ, ◌+◌, ◌-◌, ◌*◌, Bool, true, false, cond, not, ◌&&◌, ltb, leb, List, [], ◌∷◌, ◌++◌, length, ap, le-leb, ltb-false, ltb-true, refl, sym, ◌∙◌}
use Rattle.std.proofs.Math.Seq.{paste}
use Rattle.std.proofs.lemmas.Bool.{lt-leb}
use Rattle.types.specs.declared.RowRecord.{RowRecord}
use Rattle.rules.specs.Rows.{unwanted, arrive, free, room}
use Rattle.rules.specs.Scan.{Ask, State, exponent_of, seen_one, corrupt_one, keep_one, ours, digest_right, hashed}
use Rattle.rules.specs.Good.{Found, found_in, good}
use Rattle.rules.proofs.Tests.{by-test}
use Rattle.rules.proofs.Packet.{effect}

-- rows and store
pub record Held : Type 0 where
  pub rows : List RowRecord
  pub store : List ℕ

abbrev pub held_of : State → Held
held_of s = record { rows = s.rows; store = s.store }

-- what a good packet brings is taken in, if its exponent is wanted
unfoldable pub take_in : Ask → Found → Held → Held
take_in a f h =
    cond (unwanted a.limit h.rows f.exponent) h
    (record {
      rows = arrive a.limit h.rows f.exponent;
      store = paste h.store (free (room a.limit h.rows) * a.size) f.bytes a.size;
    })

unfoldable pub take_in_all : Ask → List Found → Held → Held
take_in_all a [] h = h
take_in_all a (f ∷ fs) h = take_in_all a fs (take_in a f h)

pub take_in_all-append : (a : Ask) (fs gs : List Found) (h : Held) → take_in_all a (fs ++ gs) h ≡ take_in_all a gs (take_in_all a fs h)
unfolding take_in_all
take_in_all-append a [] gs h = refl
take_in_all-append a (f ∷ fs) gs h = take_in_all-append a fs gs (take_in a f h)

pub take-cond : (a : Ask) (g : Bool) (f : Found) (fs : List Found) (h : Held)
    → take_in_all a fs (cond g (take_in a f h) h) ≡ take_in_all a (cond g (f ∷ fs) fs) h
unfolding take_in_all
take-cond a true f fs h = refl
take-cond a false f fs h = refl

-- the tests of a packet: ours, its body short, its exponent unwanted, its digest right
mix : (a : Ask) (f : Found) (s : State) (o b u g : Bool)
    → held_of (cond o (cond b (corrupt_one s) (cond u (seen_one s) (cond g (keep_one a f.exponent f.bytes s) (corrupt_one s)))) s)
    ≡ cond (o && not b && g) (cond u (held_of s) (held_of (keep_one a f.exponent f.bytes s))) (held_of s)
mix a f s false b u g = refl
mix a f s true true u g = refl
mix a f s true false true true = refl
mix a f s true false true false = refl
mix a f s true false false true = refl
mix a f s true false false false = refl

leb-not : (m n : ℕ) → leb n m ≡ not (ltb m n)
leb-not m n =
    by-test (ltb m n)
    (λ t. lt-leb n m (ltb-true m n t) ∙ sym (ap not t))
    (λ t. le-leb n m (ltb-false m n t) ∙ sym (ap not t))

module _ (a : Ask) (p : List ℕ) (s : State) where
  good-is : good a.set a.size p ≡ (ours a.set p && not (ltb (length p - 64) (4 + a.size)) && digest_right p)
  unfolding good
  good-is = rw (leb-not (length p - 64) (4 + a.size))

  pub held-effect : held_of (effect a p s) ≡ cond (good a.set a.size p) (take_in a (found_in a.size p) (held_of s)) (held_of s)
  unfolding effect hashed take_in keep_one
  held-effect =
      rw good-is
      (mix a (found_in a.size p) s (ours a.set p) (ltb (length p - 64) (4 + a.size)) (unwanted a.limit s.rows (exponent_of p)) (digest_right p))
