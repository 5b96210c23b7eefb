-- The crate's answers beside those of the rules: `..Of` reads one as the other, `..As` gives the answer for it.
use Rattle.std.specs.Prelude.{◌≡◌, List, ℕ, ◌-◌, Option, None, Result, Ok, Err}
use Rattle.rules.specs.Meaning.{length_in}
use Rattle.rules.specs.Calls as rule
use Rattle.budget.specs.declared.Budget.{Budget}
use Rattle.budget.specs.declared.Cut.{Cut}
use Rattle.budget.specs.declared.Store.{Store}
use Rattle.budget.specs.Budget.{last_of}
use Rattle.answer.specs.declared.Refusal.{Refusal}
use Rattle.answer.specs.declared.Refusal.TheVariants as refusal
use Rattle.answer.specs.declared.Answer.{Answer}
use Rattle.answer.specs.declared.Answer.TheVariants as answer
use Rattle.answer.specs.declared.Outcome.{Outcome}
use Rattle.answer.specs.declared.numbers.Numbers.{Numbers}

abbrev pub refusal_of : Refusal → rule.Refusal
refusal_of refusal.Geometry = rule.geometry
refusal_of refusal.NoStore = rule.no_store
refusal_of refusal.Unfinished = rule.unfinished
refusal_of refusal.Reserved = rule.reserved
refusal_of refusal.Empty = rule.empty
refusal_of refusal.TooLong = rule.too_long
refusal_of refusal.NoRoom = rule.no_room
refusal_of refusal.Absent = rule.absent
refusal_of refusal.BadData = rule.bad_data
refusal_of (refusal.ShortBuffer len) = rule.short_buffer len

abbrev pub refusal_as : rule.Refusal → Refusal
refusal_as rule.geometry = refusal.Geometry
refusal_as rule.no_store = refusal.NoStore
refusal_as rule.unfinished = refusal.Unfinished
refusal_as rule.reserved = refusal.Reserved
refusal_as rule.empty = refusal.Empty
refusal_as rule.too_long = refusal.TooLong
refusal_as rule.no_room = refusal.NoRoom
refusal_as rule.absent = refusal.Absent
refusal_as rule.bad_data = refusal.BadData
refusal_as (rule.short_buffer len) = refusal.ShortBuffer len

-- what a read answers
abbrev pub reply_as : rule.Reply → Result ℕ Refusal
reply_as (rule.found e) = Ok (length_in e.head)
reply_as (rule.refused r) = Err (refusal_as r)

-- The paper's numbers, as the rules have them.
abbrev pub numbers_of : Numbers → rule.Numbers
numbers_of n = record { number = n.number; stores = n.stores; turns = n.turns; length = n.length }

-- The paper's number for each answer to a read, and the length that goes with it.
abbrev pub reply_numbers_of : Result ℕ Refusal → rule.Numbers
reply_numbers_of (Ok len) = record { number = 0; stores = 0; turns = 0; length = len }
reply_numbers_of (Err r) = rule.reply_numbers (rule.refused (refusal_of r))

-- The same for the other calls: stores and turns.
abbrev pub made_numbers_of : Answer → rule.Numbers
made_numbers_of (answer.Done stores turns) = record { number = 0; stores = stores; turns = turns; length = 0 }
made_numbers_of (answer.Cut stores) = record { number = 11; stores = stores; turns = 0; length = 0 }

abbrev pub answer_numbers_of : Result Outcome Refusal → rule.Numbers
answer_numbers_of (Ok outcome) = made_numbers_of outcome.answer
answer_numbers_of (Err r) = rule.answer_numbers (rule.refused (refusal_of r))

-- the last store that a call made: a refused one made none
abbrev pub last_in : Result Outcome Refusal → Option Store
last_in (Ok outcome) = outcome.last
last_in (Err r) = None

-- What a call that stores leaves, by what is due: the paper's numbers, the image, and the last of the stores made.
pub record Leaves (size : ℕ) (due : rule.Due) (allowance : ℕ) (before after : List ℕ) (r : Result Outcome Refusal) : Type 0 where
  pub numbers : answer_numbers_of r ≡ rule.answer_numbers (rule.answer due allowance)
  pub image : after ≡ rule.leaves size due allowance before
  pub last : last_in r ≡ last_of None (rule.made due allowance)

-- the outcome by what is left of an allowance, and by whether its stores were cut
abbrev pub outcome_as : (allowance : ℕ) → Budget → Result (Unit {0}) Cut → (turns : ℕ) → Outcome
outcome_as allowance budget (Ok all) turns = record { answer = answer.Done (allowance - budget.left) turns; last = budget.last }
outcome_as allowance budget (Err cut) turns = record { answer = answer.Cut allowance; last = budget.last }
