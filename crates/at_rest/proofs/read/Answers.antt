-- `read`: each return is a case of the rule.
-- Assumes nothing.
use mathlib.Core.Path.{◌≡◌, sym, ap, ◌∙◌}
use mathlib.Core.List.{List, ◌++◌}
use Prim.Native.Nat.{ℕ, ◌*◌, ◌≤◌}
use native.Mathlib.Nat.{mul-le-mul}
use native.Mathlib.Omega.{arith}
use lib.ListN.{length, take, drop}
use Rattle.std.specs.Prelude.{Some, None, Ok}
use Rattle.rules.specs.Ground.{block_size}
use Rattle.rules.specs.Meaning.{at_rest, history, lookup}
use Rattle.rules.specs.Calls as rule
use Rattle.rules.specs.Calls.{buffer_after}
use Rattle.layout.specs.Geometry.{blocks_of, sectors_of}
use Rattle.layout.specs.Numbers.{sector_no, place_no}
use Rattle.entry.specs.Answer.{id_no}
use Rattle.image.specs.Answer.{views}
use Rattle.search.specs.Value.{passes}
use Rattle.search.proofs.Valued.{Holds, found-value, found_nothing}
use Rattle.answer.specs.Answer.{reply_as}
use Rattle.at_rest.proofs.Reading.{part_lem, both, reply-absent, reply-short, reply-bad, reply-found, buffer-found}
use Rattle.at_rest.proofs.read.Goals as goal
use Rattle.at_rest.proofs.read.Goals.{After-passes, In-Some, In_default}

-- the value that is found
held : (c : In-Some)
    → Holds c.args.image.now.bytes.now (lookup (id_no c.args.id) (history (at_rest (sector_no c.args.w)) (views c.args.image.now))) (place_no c.in-Some.field-0.place) c.in-Some.field-0.length c.in-Some.field-0.check
held c =
    let is : c.find.result ≡ Some c.in-Some.field-0 = grind (arith, c.in-Some.is) in
    found-value c.args.image.now.geometry c.args.image.now.bytes.now c.args.image.now.backs (id_no c.args.id) (sector_no c.args.w) c.requires.w_bound (sym c.find.ensures ∙ is)

absent : (c : In_default) → lookup (id_no c.args.id) (history (at_rest (sector_no c.args.w)) (views c.args.image.now)) ≡ mathlib.Core.Option.none
absent c =
    let is : c.find.result ≡ None = grind (arith, c.in_default.not-Some) in
    found_nothing c.args.image.now.geometry c.args.image.now.bytes.now c.args.image.now.backs (id_no c.args.id) (sector_no c.args.w) c.requires.w_bound (sym c.find.ensures ∙ is)

judged : (c : After-passes)
    → c.passes.result ≡ passes c.in-Some.field-0.check (take c.in-Some.field-0.length (drop (place_no c.in-Some.field-0.place) c.args.image.now.bytes.now))
judged c = c.passes.ensures ∙ ap (passes c.in-Some.field-0.check) (part_lem c.args.image.now.bytes.now c.in-Some.field-0.length c.number-start.ensures)

pub returns-in_default : goal.returns-in_default
unfolding buffer_after
returns-in_default c =
    let told = both reply_as c.args.buffer.now (reply-absent (length c.args.buffer.now) (absent (goal.at.returns-in_default c).In_default)) in
    record { answer = told.0; buffer = told.1 }

pub returns-then-buffer-length : goal.returns-then-buffer-length
unfolding buffer_after
returns-then-buffer-length c =
    let told = both reply_as c.args.buffer.now (reply-short (held (goal.at.returns-then-buffer-length c).In-Some) (length c.args.buffer.now) c.if-buffer-length.true) in
    record { answer = told.0; buffer = told.1 }

pub overflow_add-bytes : goal.overflow_add-bytes
overflow_add-bytes c =
    let g = c.args.image.now.geometry in
    let size = mul-le-mul {n₁ = sectors_of g} {m₁ = blocks_of g * block_size} {n₂ = 64} {m₂ = 65536} g.sound.sectors_to (omega (arith, g.sound.blocks_to)) in
    omega (arith, (held (goal.at.overflow_add-bytes c).In-Some).inside, c.number-start.ensures, c.args.image.now.backs.sized, size)

pub slice_bounds-bytes-end : goal.slice_bounds-bytes-end
slice_bounds-bytes-end c = omega (arith, (held (goal.at.slice_bounds-bytes-end c).In-Some).inside, c.number-start.ensures)

pub returns-then-not-passes : goal.returns-then-not-passes
unfolding buffer_after
returns-then-not-passes c =
    let fits : c.in-Some.field-0.length ≤ length c.args.buffer.now = omega (arith, c.if-buffer-length.false) in
    let told = both reply_as c.args.buffer.now (reply-bad (held (goal.at.returns-then-not-passes c).In-Some) (length c.args.buffer.now) fits (sym (judged (goal.at.returns-then-not-passes c).After-passes) ∙ c.if-not-passes.true)) in
    record { answer = told.0; buffer = told.1 }

pub returns : goal.returns
returns c =
    let buffer : List ℕ = c.args.buffer.now in
    let fits : c.in-Some.field-0.length ≤ length buffer = omega (arith, c.if-buffer-length.false) in
    let answer = reply-found (held (goal.at.returns c).In-Some) (length buffer) fits (sym (judged (goal.at.returns c).After-passes) ∙ c.if-not-passes.false) in
    let stored =
    c.copy.ensures
    ∙ ap (λ (xs : List ℕ). xs ++ drop (length xs) buffer) (part_lem c.args.image.now.bytes.now c.in-Some.field-0.length c.number-start.ensures)
    ∙ sym (buffer-found (held (goal.at.returns c).In-Some) (length buffer) buffer)
    ∙ ap (λ (r : rule.Reply). buffer_after r buffer) (sym answer) in
    record { answer = ap Ok (sym (held (goal.at.returns c).In-Some).length) ∙ ap reply_as (sym answer); buffer = stored }
