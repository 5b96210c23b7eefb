-- `write_ids`: at most one is counted for each ID passed.
use Rattle.std.proofs.Common.{◌+◌, ◌≤◌}
use Rattle.bench_sheet.proofs.write_ids.Given as goal

abbrev pub invariant-loop-id : goal.invariant-loop-id
invariant-loop-id g l = (l.written + l.first ≤ l.id) × (l.turned + l.first ≤ l.id)
