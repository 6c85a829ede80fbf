-- Reading a volume: what is scanned, what is reported, and what is left.
use Rattle.std.specs.Prelude.{cond, List, [], ◌∷◌, ℕ, ◌+◌, min, ltb, length, take, Result, Ok, Err}
use Rattle.types.specs.declared.Refusal.{Refusal}
use Rattle.types.specs.declared.Refusal.TheVariants.{StoreShort, BadState, CounterFull}
use Rattle.types.specs.declared.VolumeEnd.TheVariants.{CapReached}
use Rattle.types.specs.declared.VolumeScan.{VolumeScan}
use Rattle.rules.specs.Scan.{Ask, State, Ended, scan}
use Rattle.rules.specs.Reader.{Reader, bad_state, counter_full, store_short, first_of}

-- what a volume is answered, with the reader and the store as they are left
pub record VolumeRead : Type 0 where
  pub answer : Result VolumeScan Refusal
  pub reader : Reader
  pub store : List ℕ

abbrev pub ask_of : Reader → Ask
ask_of r = record { set = r.set; size = r.size; limit = r.limit }

abbrev pub start_of : Reader → List ℕ → State
start_of r store = record { rows = r.rows; store = store; seen = 0; kept = 0; corrupt = 0 }

-- V, the first min(cap, length) bytes, is scanned from its start
abbrev pub scanned : Reader → List ℕ → List ℕ → Ended
scanned r store volume = scan (ask_of r) (take r.cap volume) 0 (start_of r store)

-- bytes read is min(cap, length); if the length is above the cap the end is CapReached in place of either other
unfoldable pub reported : ℕ → List ℕ → Ended → VolumeScan
reported cap volume e =
    record {
      seen = e.state.seen;
      kept = e.state.kept;
      corrupt = e.state.corrupt;
      bytes_read = min cap (length volume);
      end = cond (ltb cap (length volume)) CapReached e.end;
    }

-- total seen grows by seen
abbrev pub reader_after : Reader → State → Reader
reader_after r s =
    record {
      set = r.set;
      size = r.size;
      capacity = r.capacity;
      limit = r.limit;
      cap = r.cap;
      rows = s.rows;
      total = r.total + s.seen;
    }

unfoldable pub accepted : Reader → List ℕ → Ended → VolumeRead
accepted r volume e =
    record { answer = Ok (reported r.cap volume e); reader = reader_after r e.state; store = e.state.store }

-- volume: 4, 5, 3
unfoldable pub volume_refusal : Reader → List ℕ → Result (Unit {0}) Refusal
volume_refusal r store =
    first_of ((bad_state r, BadState) ∷ (counter_full r, CounterFull) ∷ (store_short r store, StoreShort) ∷ [])

-- a refusal changes no state and no store byte
unfoldable pub unless : Result (Unit {0}) Refusal → Reader → List ℕ → VolumeRead → VolumeRead
unless (Ok _) r store read = read
unless (Err why) r store read = record { answer = Err why; reader = r; store = store }

unfoldable pub read_volume : Reader → List ℕ → List ℕ → VolumeRead
read_volume r store volume = unless (volume_refusal r store) r store (accepted r volume (scanned r store volume))
