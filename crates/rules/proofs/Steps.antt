-- The scan as a loop sees it: where a step stops, the scan ends; where it goes on, the scan goes on behind the bytes passed over, at least one and
-- no more than there are. With these a loop's invariant is that the scan from its position is the scan of the whole.
use Rattle.std.proofs.Common.{◌≡◌, ℕ, zero, suc, ◌+◌, ◌-◌, ◌<◌, ◌≤◌, true, false, ltb, leb, List, [], ◌∷◌, length, drop, ap, arith, le-ltb, leb-true, length-drop, length-take, lt-ltb, ltb-false, refl, subst, ◌∙◌}
use Rattle.std.proofs.lemmas.Bool.{and_parts, cond_both}
use Rattle.format.specs.Bytes.{part, same}
use Rattle.format.specs.Packet.{magic, magic_of, length_of, usable_length}
use Rattle.types.specs.declared.VolumeEnd.{VolumeEnd}
use Rattle.types.specs.declared.VolumeEnd.TheVariants.{Complete}
use Rattle.rules.specs.Rows.{unwanted}
use Rattle.rules.specs.Scan.{Ask, State, Step, stop, go, exponent_of, seen_one, corrupt_one, hashed, agree, tail_end, header, stray, resync}
use Rattle.rules.specs.Scan.{past, ours, long_packet, packet, step, follow, scan}
use Rattle.rules.proofs.Tests.{by-test}

-- ---- The scan at a position

pub scan-skip : (a : Ask) (bs : List ℕ) (n : ℕ) (s : State) → scan a bs n s ≡ scan a (drop n bs) 0 s
unfolding scan
scan-skip a [] zero s = refl
scan-skip a [] (suc n) s = refl
scan-skip a (x ∷ bs) zero s = refl
scan-skip a (x ∷ bs) (suc n) s = scan-skip a bs n s

pub scan-go : (a : Ask) (x : ℕ) (xs : List ℕ) (s t : State) (n : ℕ) → step a (x ∷ xs) s ≡ go n t
    → scan a (x ∷ xs) 0 s ≡ scan a xs (n - 1) t
unfolding scan follow
scan-go a x xs s t n e = ap (follow (λ n t. scan a xs n t)) e

pub scan-stop : (a : Ask) (x : ℕ) (xs : List ℕ) (s t : State) (e : VolumeEnd) → step a (x ∷ xs) s ≡ stop e t
    → scan a (x ∷ xs) 0 s ≡ record { end = e; state = t }
unfolding scan follow
scan-stop a x xs s t e p = ap (follow (λ n t. scan a xs n t)) p

-- nothing left
step-nil : (a : Ask) (s : State) → step a [] s ≡ stop Complete s
unfolding step tail_end
step-nil a s = refl

pub scan-on : (a : Ask) (bs : List ℕ) (s t : State) (n : ℕ) → step a bs s ≡ go (suc n) t
    → scan a bs 0 s ≡ scan a (drop (suc n) bs) 0 t
scan-on a [] s t n e = let z : ◌≡◌ {A = ℕ} 0 1 = cc (step-nil a s) in absurd (omega arith)
scan-on a (x ∷ bs) s t n e =
    scan-go a x bs s t (suc n) e ∙ ap (λ (k : ℕ). scan a bs k t) (omega arith) ∙ scan-skip a bs n t

pub scan-end : (a : Ask) (bs : List ℕ) (s t : State) (e : VolumeEnd) → step a bs s ≡ stop e t
    → scan a bs 0 s ≡ record { end = e; state = t }
unfolding scan
scan-end a [] s t e p =
    let c : Complete ≡ e = cc (step-nil a s) in
    let u : s ≡ t = cc (step-nil a s) in
    λ i. record { end = c i; state = u i }
scan-end a (x ∷ bs) s t e p = scan-stop a x bs s t e p

-- ---- A step by its tests

module _ (a : Ask) (bs : List ℕ) (s : State) where
  pub step-tail : length bs < 64 → step a bs s ≡ stop (tail_end bs) s
  unfolding step
  step-tail l = simp (lt-ltb (length bs) 64 l)

  pub step-junk : 64 ≤ length bs → header bs ≡ false → step a bs s ≡ go (resync bs) s
  unfolding step
  step-junk l h = simp (le-ltb (length bs) 64 l, h)

  pub step-packet : 64 ≤ length bs → header bs ≡ true → step a bs s ≡ packet a bs s
  unfolding step
  step-packet l h = simp (le-ltb (length bs) 64 l, h)

-- ---- A step that goes on passes over at least one byte, and no more than there are

abbrev Moves : List ℕ → Step → Type 0
Moves bs (stop e s) = Unit {0}
Moves bs (go n s) = (0 < n) × (n ≤ length bs)

stray-most : (xs : List ℕ) → stray xs ≤ length xs
unfolding stray
stray-most [] = omega arith
stray-most (x ∷ xs) =
    by-test (agree (x ∷ xs) magic) (λ t. rw t (omega arith)) (λ t. rw t (omega (arith, stray-most xs)))

pub resync-moves : (bs : List ℕ) → 64 ≤ length bs → (0 < resync bs) × (resync bs ≤ 64)
unfolding resync
resync-moves bs l = (
  omega arith,
  omega (arith, stray-most (part 1 63 bs), length-take 63 (drop 1 bs), length-drop 1 bs),
)

pub header-long : (bs : List ℕ) → header bs ≡ true → 64 ≤ length_of bs
unfolding header usable_length
header-long bs h =
    leb-true 64 (length_of bs)
    (and_parts (leb 64 (length_of bs)) _ (and_parts (same (magic_of bs) magic) (usable_length (length_of bs)) h).1).0

module _ (a : Ask) (bs : List ℕ) (s : State) where
  moves-past : (cut whole : State) → 0 < length_of bs → Moves bs (past bs cut whole)
  unfolding past
  moves-past cut whole p =
      cond_both (ltb (length bs) (length_of bs)) _ _ (Moves bs) (λ _. tt) (λ u. (p, ltb-false (length bs) (length_of bs) u))

  moves-packet : 0 < length_of bs → Moves bs (packet a bs s)
  unfolding packet long_packet
  moves-packet p =
      cond_both (ours a.set bs) _ _ (Moves bs)
      (λ _. cond_both (ltb (length_of bs - 64) (4 + a.size)) _ _ (Moves bs)
      (λ _. moves-past (corrupt_one s) (corrupt_one s) p)
      (λ _. cond_both (ltb (length bs) 68) _ _ (Moves bs) (λ _. tt)
      (λ _. cond_both (unwanted a.limit s.rows (exponent_of bs)) _ _ (Moves bs)
      (λ _. moves-past (seen_one s) (seen_one s) p)
      (λ _. moves-past s (hashed a bs s) p))))
      (λ _. moves-past s s p)

  moves-step : Moves bs (step a bs s)
  unfolding step
  moves-step =
      cond_both (ltb (length bs) 64) _ _ (Moves bs) (λ _. tt)
      (λ l. cond_both (header bs) _ _ (Moves bs)
      (λ h. moves-packet (omega (arith, header-long bs h)))
      (λ _.
      let m = resync-moves bs (ltb-false (length bs) 64 l) in
      let big = ltb-false (length bs) 64 l in
      (m.0, omega (arith, m.1))))

pub step-moves : (a : Ask) (bs : List ℕ) (s t : State) (n : ℕ) → step a bs s ≡ go n t → (0 < n) × (n ≤ length bs)
step-moves a bs s t n e = subst (Moves bs) e (moves-step a bs s)
