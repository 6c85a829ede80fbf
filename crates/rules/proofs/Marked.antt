-- The marked cases hold of the rules, by computation. Assumes nothing.
use Rattle.std.proofs.Common.{◌≡◌, map, refl}
use Rattle.format.specs.Bytes.{same, little}
use Rattle.format.specs.Packet.{magic, recovery_type, usable_length}
use Rattle.rules.specs.Rows.{has, highest, unwanted}
use Rattle.rules.specs.Scan.{agree, tail_end, header, stray, resync, past, ours, long_packet, packet, step, follow, scan}
use Rattle.rules.specs.Reader.{bad_slice_size, bad_capacity, store_short, repeats, reaches, any, bad_state, counter_full, first_of}
use Rattle.rules.specs.Volume.{reported, accepted, volume_refusal, unless, read_volume}
use Rattle.rules.specs.Budget.{rows_bound, bytes_bound, row_limit}
use Rattle.rules.specs.Cases.{our_set, lone, recovery, marked, windows, answered, expected, BudgetCase, budgets, rows_of}

-- all that the cases compute through
unfoldable pub open_rules : Unit {0}
unfolding same little magic recovery_type usable_length has highest unwanted agree tail_end header stray resync past ours long_packet packet step follow scan bad_slice_size bad_capacity store_short repeats reaches any bad_state counter_full first_of reported accepted volume_refusal unless read_volume our_set lone recovery marked windows answered expected
open_rules = tt

-- V1 to V13
pub marked-cases : map answered marked ≡ map expected marked
unfolding open_rules
marked-cases = refl

pub window-cases : map answered windows ≡ map expected windows
unfolding open_rules
window-cases = refl

pub budget-cases : map rows_of budgets ≡ map (λ (c : BudgetCase). c.rows) budgets
unfolding budgets row_limit rows_bound bytes_bound
budget-cases = refl
