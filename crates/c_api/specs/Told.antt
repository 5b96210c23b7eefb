-- How the numbers of an answer reach a C caller.
use Rattle.std.specs.Prelude.{◌≡◌, List, ℕ, set}
use Rattle.rules.specs.Calls as rule

-- A lent array with stores, turns and length in its first three places. A shorter one gets as many as it has places, a longer one
-- keeps the rest.
unfoldable pub told : (stores turns length : ℕ) → List ℕ → List ℕ
told stores turns length lent = set (set (set lent 0 stores) 1 turns) 2 length

-- The number of an answer is the result r, and its other numbers are told in the lent array.
pub record Tells (n : rule.Numbers) (before after : List ℕ) (r : ℕ) : Type 0 where
  pub number : r ≡ n.number
  pub others : after ≡ told n.stores n.turns n.length before
