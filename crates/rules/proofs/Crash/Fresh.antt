-- What a format leaves stands, and holds nothing; and there is an allowance that is enough for it.
use mathlib.Core.Path.{◌≡◌, refl, sym, ap, subst, ◌∙◌}
use mathlib.Core.Bool.{true}
use mathlib.Core.List.{List}
use mathlib.Core.Option.{none}
use Prim.Native.Nat.{ℕ, zero, suc, ◌+◌, ◌*◌, ◌/◌, ◌≤◌}
use native.Mathlib.Nat.{not-suc-le-zero, le_of_suc-le-suc, mul-le-mul}
use native.Mathlib.Omega.{arith}
use lib.ListN.{length, length-replicate}
use Rattle.rules.specs.Ground.{block_size, legal_sizes, image_of}
use Rattle.rules.specs.Meaning.{at_rest, views_of, history, lookup}
use Rattle.rules.specs.Stores.{apply, format}
use Rattle.rules.specs.Calls.{Due, refuse, make, answer, answer_numbers, format_on, format_due}
use Rattle.rules.specs.Demands.{IsBudget, gives, Succeeds}
use Rattle.rules.proofs.Format.Ground.{legal-bounds}
use Rattle.rules.proofs.Blocks.OnBytes.{HasBlocks, call-on}
use Rattle.rules.proofs.Blocks.Formatted.{format-bytes, length-format}
use Rattle.rules.proofs.Blocks.FormattedViews.{empty_view, fresh_views, fresh-views, fresh-rests, fresh-history, done-matches}
use Rattle.rules.proofs.Due.Calls.{answer-whole, answer-cut}
use Rattle.rules.proofs.Ring.States.{state-is}
use Rattle.rules.proofs.Crash.Standing.{Stands, settled}

fresh-stand : (n : ℕ) → Stands (suc (suc n)) (λ (id : ℕ). none) (fresh_views n)
unfolding settled
fresh-stand n =
    let empty : (id : ℕ) → lookup id (history (at_rest 0) (fresh_views n)) ≡ none = λ id. ap (lookup id) (fresh-history n) ∙ done-matches id in
    record { sized = ap (λ (k : ℕ). suc (suc k)) (length-replicate n (empty_view true)); state = at_rest 0; is = state-is (fresh_views n) (at_rest 0) (fresh-rests n); matches = empty; matches_later = empty }

pub format-stands : (B S : ℕ) (bytes : List ℕ) → 8 ≤ B → 2 ≤ S → Stands S (λ (id : ℕ). none) (views_of B (apply (format B S) (image_of B S bytes)))
format-stands B zero bytes big two = absurd (not-suc-le-zero two)
format-stands B (suc zero) bytes big two = absurd (not-suc-le-zero (le_of_suc-le-suc two))
format-stands B (suc (suc n)) bytes big two =
    subst (Stands (suc (suc n)) (λ (id : ℕ). none))
    (sym (ap (views_of B) (format-bytes B (suc (suc n)) bytes (omega arith) (omega arith)) ∙ fresh-views B big n))
    (fresh-stand n)

-- Legal sizes are small enough for some allowance to be enough for a format, and it tells no turn.
pub format-succeeds : (size count : ℕ) (bytes : List ℕ) → legal_sizes size count (length bytes) ≡ true → Succeeds (format_due size count bytes) 0
unfolding format_due format_on IsBudget answer_numbers gives
format-succeeds size count bytes legal =
    let B : ℕ = size / block_size in
    let bounds = legal-bounds size count (length bytes) legal in
    let whole : HasBlocks size count bytes (image_of B count bytes) = record { legal = legal; blocks = refl } in
    let many : length (format B count) ≡ 1 + count * B = length-format B count (omega arith) (omega arith) in
    let few : count * B ≤ 64 * 4096 = mul-le-mul bounds.sectors_to bounds.blocks_to in
    let what : format_due size count bytes ≡ make (format B count) 0 = call-on size count whole refuse format_on in
    record {
      stores = length (format B count);
      turns = 0;
      few = omega arith;
      enough = omega arith;
      whole = λ a covers. ap (λ (d : Due). answer_numbers (answer d a)) what ∙ ap answer_numbers (answer-whole (format B count) 0 a covers);
      short = λ a short. ap (λ (d : Due). answer_numbers (answer d a)) what ∙ ap answer_numbers (answer-cut (format B count) 0 a short);
    }
