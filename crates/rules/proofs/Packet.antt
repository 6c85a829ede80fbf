-- What one whole packet does to the scan.
use Rattle.std.proofs.Common.{◌≡◌, ℕ, ◌+◌, ◌-◌, ◌%◌, ◌≤◌, Bool, true, false, cond, eqb, ltb, leb, List, ◌++◌, length, drop, ap, append_assoc, ap₂, arith, eq-eqb, le-leb, le-ltb, length-append, ltb-false, refl, sym, take-append-drop, ◌∙◌}
use Rattle.std.proofs.lemmas.Bool.{and_from}
use Rattle.std.proofs.lemmas.List.{take-append-le}
use Rattle.md5_digest.specs.Rfc1321.{md5}
use Rattle.format.specs.Bytes.{part, same, little}
use Rattle.format.specs.Packet.{magic, magic_of, length_of, usable_length}
use Rattle.rules.specs.Rows.{unwanted}
use Rattle.rules.specs.Scan.{Ask, State, go, exponent_of, seen_one, corrupt_one, agree}
use Rattle.rules.specs.Scan.{header, past, ours, digest_right, hashed, long_packet, packet, step}
use Rattle.rules.specs.Good.{Whole}
use Rattle.rules.proofs.Tests.{by-test}
use Rattle.rules.proofs.Runs.{agree-front, part-append, eq-same}
use Rattle.rules.proofs.Steps.{step-packet}

-- what a whole packet does
unfoldable pub effect : Ask → List ℕ → State → State
effect a p s =
    cond (ours a.set p)
    (cond (ltb (length p - 64) (4 + a.size)) (corrupt_one s)
    (cond (unwanted a.limit s.rows (exponent_of p)) (seen_one s) (hashed a p s)))
    s

go-cond : (b : Bool) (n : ℕ) (s t : State) → cond b (go n s) (go n t) ≡ go n (cond b s t)
go-cond true n s t = refl
go-cond false n s t = refl

module _ (p q : List ℕ) (w : Whole p) where
  pub magic-first : p ++ q ≡ magic ++ (drop 8 p ++ q)
  magic-first =
      ap (λ (l : List ℕ). l ++ q) (sym (take-append-drop 8 p) ∙ ap (λ (m : List ℕ). m ++ drop 8 p) w.starts)
      ∙ append_assoc magic (drop 8 p) q

  pub like-magic : agree (p ++ q) magic ≡ true
  like-magic = rw magic-first (agree-front magic (drop 8 p ++ q))

  pub longer : length p ≤ length (p ++ q)
  longer = omega (arith, length-append p q)

  pub length_at : length_of (p ++ q) ≡ length p
  length_at = ap little (part-append 8 8 p q (omega (arith, w.long))) ∙ w.all

  usable : usable_length (length p) ≡ true
  unfolding usable_length
  usable = and_from (leb 64 (length p)) (eqb (length p % 4) 0) (le-leb 64 (length p) w.long) (eq-eqb _ _ w.fours)

  pub header_at : header (p ++ q) ≡ true
  unfolding header
  header_at =
      and_from (same (magic_of (p ++ q)) magic) (usable_length (length_of (p ++ q)))
      (ap (λ (m : List ℕ). same m magic) (take-append-le 8 p q (omega (arith, w.long)) ∙ w.starts) ∙ eq-same magic)
      (ap usable_length length_at ∙ usable)

  past-whole : (s t : State) → past (p ++ q) s t ≡ go (length p) t
  unfolding past
  past-whole s t = simp (length_at, le-ltb (length (p ++ q)) (length p) longer)

  ours_at : (set : List ℕ) → ours set (p ++ q) ≡ ours set p
  unfolding ours
  ours_at set = simp (part-append 32 16 p q (omega (arith, w.long)), part-append 48 16 p q (omega (arith, w.long)))

  digest-at : digest_right (p ++ q) ≡ digest_right p
  unfolding digest_right
  digest-at =
      ap₂ (λ (h d : List ℕ). same (md5 h) d)
      (ap (λ (n : ℕ). part 32 (n - 32) (p ++ q)) length_at
      ∙ part-append 32 (length p - 32) p q (omega (arith, w.long))
      ∙ ap (λ (n : ℕ). part 32 (n - 32) p) (sym w.all))
      (part-append 16 16 p q (omega (arith, w.long)))

  module _ (a : Ask) (s : State) where
    hashed-at : 68 + a.size ≤ length p → hashed a (p ++ q) s ≡ hashed a p s
    unfolding hashed
    hashed-at l = simp (digest-at, part-append 64 4 p q (omega arith), part-append 68 a.size p q l)

    long-whole : 68 + a.size ≤ length p
        → long_packet a (p ++ q) s ≡ go (length p) (cond (unwanted a.limit s.rows (exponent_of p)) (seen_one s) (hashed a p s))
    unfolding long_packet
    long-whole l =
        simp (
          le-ltb (length (p ++ q)) 68 (omega (arith, longer)),
          part-append 64 4 p q (omega arith),
          past-whole,
          hashed-at l,
        )
        (go-cond (unwanted a.limit s.rows (exponent_of p)) (length p) _ _)

    packet-whole : packet a (p ++ q) s ≡ go (length p) (effect a p s)
    unfolding packet effect
    packet-whole =
        by-test (ltb (length p - 64) (4 + a.size))
        (λ t. simp (ours_at, length_at, t, past-whole) (go-cond (ours a.set p) (length p) _ _))
        (λ t.
        simp (ours_at, length_at, t, past-whole, long-whole (omega (arith, ltb-false (length p - 64) (4 + a.size) t, w.long)))
        (go-cond (ours a.set p) (length p) _ _))

    pub step-whole : step a (p ++ q) s ≡ go (length p) (effect a p s)
    step-whole = step-packet a (p ++ q) s (omega (arith, longer, w.long)) header_at ∙ packet-whole
