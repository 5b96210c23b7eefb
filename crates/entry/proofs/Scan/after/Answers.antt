-- `Scan::after`: each arm knows its head's constructor, at which the rules' `after` computes. Few data blocks, so no sum wraps.
-- Assumes nothing.
use mathlib.Core.Path.{sym, ap, ◌∙◌}
use mathlib.Core.Bool.{or-true, or-false}
use Prim.Native.Nat.{◌+◌, ◌<◌, ◌≤◌, ◌^◌}
use native.Mathlib.Nat.{add-zero}
use native.Mathlib.Omega.{arith}
use Rattle.rules.specs.Look.{after, need_of, data_of, is_done}
use Rattle.entry.specs.declared.Scan.{Scan}
use Rattle.entry.specs.Answer.{scan_of, scan_as, head_of}
use Rattle.entry.proofs.Laws.{few-data}
use Rattle.entry.proofs.Scan.after.Goals as goal
use Rattle.entry.proofs.Scan.after.Goals.{After-data_blocks-data}

few : (c : After-data_blocks-data) → c.data_blocks-data.result ≤ 4096
few c =
    let short : c.in-Value.length < 2 ^ 16 = omega arith in
    omega (arith, c.data_blocks-data.ensures, few-data c.in-Value.length short)

pub overflow_add-result-in-Value : goal.overflow_add-result-in-Value
overflow_add-result-in-Value c = omega (arith, few (goal.at.overflow_add-result-in-Value c).After-data_blocks-data)

pub overflow_add-result-in-Value-2 : goal.overflow_add-result-in-Value-2
overflow_add-result-in-Value-2 c = omega (arith, few (goal.at.overflow_add-result-in-Value-2 c).After-data_blocks-data)

pub overflow_add-result-in-Value-3 : goal.overflow_add-result-in-Value-3
overflow_add-result-in-Value-3 c = omega (arith, few (goal.at.overflow_add-result-in-Value-3 c).After-data_blocks-data)

pub overflow_cast-result : goal.overflow_cast-result
overflow_cast-result c = omega (arith, few (goal.at.overflow_cast-result c).After-data_blocks-data)

pub returns-in-Done : goal.returns-in-Done
unfolding after need_of data_of is_done
returns-in-Done c = let s : Scan = c.args.self in
    (λ i. record { needs = sym (add-zero s.needs) i; data_end = sym (add-zero s.data_end) i; done = sym (or-true s.done) i })
    ∙ sym (ap (λ h. scan_as (after (scan_of s) (head_of h))) c.in-Done.is)

pub returns-in-Deletion : goal.returns-in-Deletion
unfolding after need_of data_of is_done
returns-in-Deletion c = let s : Scan = c.args.self in
    (λ i. record { needs = s.needs + 1; data_end = sym (add-zero s.data_end) i; done = sym (or-false s.done) i })
    ∙ sym (ap (λ h. scan_as (after (scan_of s) (head_of h))) c.in-Deletion.is)

pub returns-in-Value : goal.returns-in-Value
unfolding after need_of data_of is_done
returns-in-Value c = let s : Scan = c.args.self in
    let n = c.data_blocks-data.ensures in
    (λ i. record { needs = s.needs + (1 + n i); data_end = s.data_end + n i; done = sym (or-false s.done) i })
    ∙ sym (ap (λ h. scan_as (after (scan_of s) (head_of h))) c.in-Value.is)
