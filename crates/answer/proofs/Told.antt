-- An answer as it is told: the numbers of the answer for a reply are those of the reply.
-- Assumes nothing.
use mathlib.Core.Path.{◌≡◌, refl, ap}
use Rattle.rules.specs.Calls as rule
use Rattle.answer.specs.Answer.{refusal_of, refusal_as, reply_as, reply_numbers_of}

refusal-as : (r : rule.Refusal) → refusal_of (refusal_as r) ≡ r
refusal-as rule.geometry = refl
refusal-as rule.no_store = refl
refusal-as rule.unfinished = refl
refusal-as rule.reserved = refl
refusal-as rule.empty = refl
refusal-as rule.too_long = refl
refusal-as rule.no_room = refl
refusal-as rule.absent = refl
refusal-as rule.bad_data = refl
refusal-as (rule.short_buffer len) = refl

pub numbers_as : (r : rule.Reply) → reply_numbers_of (reply_as r) ≡ rule.reply_numbers r
unfolding rule.reply_numbers
numbers_as (rule.found e) = refl
numbers_as (rule.refused r) = ap (λ (x : rule.Refusal). rule.reply_numbers (rule.refused x)) (refusal-as r)
