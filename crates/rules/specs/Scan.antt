-- The scan of one volume, its tests in the order in which they are made. The scan stands before the bytes of V that are left (at position p); a step
-- stops, or passes over some of them.
use Rattle.std.specs.Prelude.{Bool, true, cond, ◌&&◌, List, [], ◌∷◌, ℕ, zero, suc, ◌+◌, ◌-◌, ◌*◌, eqb, ltb, length}
use Rattle.std.proofs.Math.Seq.{paste}
use Rattle.md5_digest.specs.Rfc1321.{md5}
use Rattle.format.specs.Bytes.{part, same, little}
use Rattle.format.specs.Packet.{magic, recovery_type, magic_of, length_of, digest_of, hashed_of, set_of, type_of, usable_length}
use Rattle.types.specs.declared.RowRecord.{RowRecord}
use Rattle.types.specs.declared.VolumeEnd.{VolumeEnd}
use Rattle.types.specs.declared.VolumeEnd.TheVariants.{Complete, Truncated}
use Rattle.rules.specs.Rows.{unwanted, room, free, arrive}

-- what the scan goes by: the set id, the slice size and the row limit
pub record Ask : Type 0 where
  pub set : List ℕ
  pub size : ℕ
  pub limit : ℕ

-- what the scan changes: rows, store and the three counts
pub record State : Type 0 where
  pub rows : List RowRecord
  pub store : List ℕ
  pub seen : ℕ
  pub kept : ℕ
  pub corrupt : ℕ

abbrev pub seen_one : State → State
seen_one s = record { rows = s.rows; store = s.store; seen = s.seen + 1; kept = s.kept; corrupt = s.corrupt }

abbrev pub corrupt_one : State → State
corrupt_one s = record { rows = s.rows; store = s.store; seen = s.seen; kept = s.kept; corrupt = s.corrupt + 1 }

-- a step stops, or goes on past so many bytes
pub data Step : Type 0 where
  stop : VolumeEnd → State → Step
  go : ℕ → State → Step

-- ---- Fewer than 64 bytes left: stop.

-- the two runs are equal as far as both go: one is the start of the other
unfoldable pub agree : List ℕ → List ℕ → Bool
agree [] ys = true
agree (x ∷ xs) [] = true
agree (x ∷ xs) (y ∷ ys) = eqb x y && agree xs ys

-- if some are left and the first min(8, left) equal the start of the magic, the end is Truncated, else Complete
unfoldable pub tail_end : List ℕ → VolumeEnd
tail_end bs = cond (ltb 0 (length bs) && agree bs magic) Truncated Complete

-- ---- Not the magic, or length below 64 or not a multiple of 4: p moves on.

-- the magic, and a usable length
unfoldable pub header : List ℕ → Bool
header bs = same (magic_of bs) magic && usable_length (length_of bs)

-- how many bytes stand before the first from which on the run equals the start of the magic; all of them, if there is none
unfoldable pub stray : List ℕ → ℕ
stray [] = 0
stray (x ∷ xs) = cond (agree (x ∷ xs) magic) 0 (suc (stray xs))

-- to the smallest q in p + 1 to p + 63 where the bytes from q to p + 63, at most 8 of them, equal the start of the magic; if none, to p + 64
unfoldable pub resync : List ℕ → ℕ
resync bs = 1 + stray (part 1 63 bs)

-- ---- A packet

-- a body not wholly in V ends the scan Truncated, with what holds where it is cut; else the scan goes on past it, with what holds where it is whole
unfoldable pub past : List ℕ → State → State → Step
past bs cut whole = cond (ltb (length bs) (length_of bs)) (stop Truncated cut) (go (length_of bs) whole)

-- counts made before a cut stand
abbrev pub skip : List ℕ → State → Step
skip bs s = past bs s s

-- of our set, and of recovery type
unfoldable pub ours : List ℕ → List ℕ → Bool
ours set bs = same (set_of bs) set && same (type_of bs) recovery_type

-- recovery: exponent u32, then data, whose first slice size bytes are the row
abbrev pub exponent_of : List ℕ → ℕ
exponent_of bs = little (part 64 4 bs)

abbrev pub row_of : ℕ → List ℕ → List ℕ
row_of size bs = part 68 size bs

unfoldable pub digest_right : List ℕ → Bool
digest_right bs = same (md5 (hashed_of (length_of bs) bs)) (digest_of bs)

-- seen + 1, kept + 1, and the row's data d goes to its slot; no other store byte changes
unfoldable pub keep_one : Ask → ℕ → List ℕ → State → State
keep_one a e d s =
    record {
      rows = arrive a.limit s.rows e;
      store = paste s.store (free (room a.limit s.rows) * a.size) d a.size;
      seen = s.seen + 1;
      kept = s.kept + 1;
      corrupt = s.corrupt;
    }

-- wrong: corrupt + 1; right: the row is kept
unfoldable pub hashed : Ask → List ℕ → State → State
hashed a bs s = cond (digest_right bs) (keep_one a (exponent_of bs) (row_of a.size bs) s) (corrupt_one s)

-- wanted: whole packet hashed; one that is cut counts nowhere
abbrev pub wanted_packet : Ask → List ℕ → State → Step
wanted_packet a bs s = past bs s (hashed a bs s)

-- under 4 bytes of the body in V: Truncated, no count; exponent not wanted: seen + 1, skip, digest not looked at
unfoldable pub long_packet : Ask → List ℕ → State → Step
long_packet a bs s =
    cond (ltb (length bs) 68) (stop Truncated s)
    (cond (unwanted a.limit s.rows (exponent_of bs)) (skip bs (seen_one s)) (wanted_packet a bs s))

-- other set or type: skip the body; body below 4 + slice size: corrupt + 1, skip
unfoldable pub packet : Ask → List ℕ → State → Step
packet a bs s =
    cond (ours a.set bs)
    (cond (ltb (length_of bs - 64) (4 + a.size)) (skip bs (corrupt_one s)) (long_packet a bs s))
    (skip bs s)

-- ---- The scan

unfoldable pub step : Ask → List ℕ → State → Step
step a bs s =
    cond (ltb (length bs) 64) (stop (tail_end bs) s)
    (cond (header bs) (packet a bs s) (go (resync bs) s))

pub record Ended : Type 0 where
  pub end : VolumeEnd
  pub state : State

-- where a step leads, if cont goes on behind the first byte
unfoldable pub follow : (ℕ → State → Ended) → Step → Ended
follow cont (stop e s) = record { end = e; state = s }
follow cont (go n s) = cont (n - 1) s

-- the scan of the bytes that are left, after passing over n of them
unfoldable pub scan : Ask → List ℕ → ℕ → State → Ended
scan a [] n s = record { end = Complete; state = s }
scan a (x ∷ xs) (suc n) s = scan a xs n s
scan a (x ∷ xs) zero s = follow (λ n t. scan a xs n t) (step a (x ∷ xs) s)
