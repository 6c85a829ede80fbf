-- What the answers of calls mean: the number of each refusal, 1 to 11, and which ending says that a volume was read whole.
use Rattle.std.specs.Prelude.{Bool, true, false, cond, ℕ, ◌==◌, Result, Ok, Err}
use Rattle.types.specs.declared.Refusal.{Refusal}
use Rattle.types.specs.declared.Refusal.TheVariants.{BadSliceSize, BadCapacity, StoreShort, BadState, CounterFull, NoPackets, NoMain, CutHeader, TableFull, HashTooLong, ListShort}
use Rattle.types.specs.declared.UnknownRefusal.{UnknownRefusal}
use Rattle.types.specs.declared.VolumeEnd.{VolumeEnd}
use Rattle.types.specs.declared.VolumeEnd.TheVariants.{Complete, Truncated, CapReached}

-- the number of a refusal, from 1 on
unfoldable pub number : Refusal → ℕ
number BadSliceSize = 1
number BadCapacity = 2
number StoreShort = 3
number BadState = 4
number CounterFull = 5
number NoPackets = 6
number NoMain = 7
number CutHeader = 8
number TableFull = 9
number HashTooLong = 10
number ListShort = 11

-- the refusal of a number; 0 and what is above 11 are the number of none
unfoldable pub refusal_of : ℕ → Result Refusal UnknownRefusal
refusal_of n =
    cond (n == 1) (Ok BadSliceSize)
    (cond (n == 2) (Ok BadCapacity)
    (cond (n == 3) (Ok StoreShort)
    (cond (n == 4) (Ok BadState)
    (cond (n == 5) (Ok CounterFull)
    (cond (n == 6) (Ok NoPackets)
    (cond (n == 7) (Ok NoMain)
    (cond (n == 8) (Ok CutHeader)
    (cond (n == 9) (Ok TableFull)
    (cond (n == 10) (Ok HashTooLong)
    (cond (n == 11) (Ok ListShort)
    (Err (record {}))))))))))))

-- only Complete says that no byte was left unread
unfoldable pub read_to_end : VolumeEnd → Bool
read_to_end Complete = true
read_to_end Truncated = false
read_to_end CapReached = false
