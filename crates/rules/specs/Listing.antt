-- Rows handed out: the data of one, and the records of all.
use Rattle.std.specs.Prelude.{cond, List, [], ◌∷◌, ◌++◌, ℕ, zero, suc, ltb, length, drop, Result, Ok, Err}
use Rattle.types.specs.declared.RowRecord.{RowRecord}
use Rattle.types.specs.declared.Refusal.{Refusal}
use Rattle.types.specs.declared.Refusal.TheVariants.{BadState, ListShort}
use Rattle.rules.specs.Rows.{slot_data}
use Rattle.rules.specs.Reader.{Reader, bad_state, store_short, list_short, any, first_of}

-- ---- Asked for row k, the reader answers the part of the lent store that holds that row;

-- of the rows from the k-th on, which counts from 0 by arrival, the first; empty if there is none
unfoldable pub data_at : ℕ → List ℕ → List RowRecord → ℕ → List ℕ
data_at size store [] k = []
data_at size store (r ∷ rs) zero = slot_data size store r.slot
data_at size store (r ∷ rs) (suc k) = data_at size store rs k

-- empty if the state or store is bad
unfoldable pub row : Reader → List ℕ → ℕ → List ℕ
row r store k = cond (any (bad_state r ∷ store_short r store ∷ [])) [] (data_at r.size store r.rows k)

-- ---- Rows can be listed into a lent run of row records, by arrival or by rising exponent.

-- a row put before the first that is not below it
unfoldable pub insert : RowRecord → List RowRecord → List RowRecord
insert r [] = r ∷ []
insert r (q ∷ qs) = cond (ltb q.exponent r.exponent) (q ∷ insert r qs) (r ∷ q ∷ qs)

unfoldable pub rising : List RowRecord → List RowRecord
rising [] = []
rising (r ∷ rs) = insert r (rising rs)

-- what a listing says, and the places as they are left
pub record Listed : Type 0 where
  pub answer : Result (Unit {0}) Refusal
  pub places : List RowRecord

-- later places stay; refused, all do
unfoldable pub fills : Result (Unit {0}) Refusal → List RowRecord → List RowRecord → Listed
fills (Ok _) rows places = record { answer = Ok tt; places = rows ++ drop (length rows) places }
fills (Err why) rows places = record { answer = Err why; places = places }

-- listing: 4, 11
unfoldable pub listing_refusal : Reader → List RowRecord → Result (Unit {0}) Refusal
listing_refusal r places = first_of ((bad_state r, BadState) ∷ (list_short r places, ListShort) ∷ [])

unfoldable pub list_by_arrival : Reader → List RowRecord → Listed
list_by_arrival r places = fills (listing_refusal r places) r.rows places

unfoldable pub list_by_exponent : Reader → List RowRecord → Listed
list_by_exponent r places = fills (listing_refusal r places) (rising r.rows) places
