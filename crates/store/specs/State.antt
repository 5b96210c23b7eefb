-- What a call makes of the state of an image, if it has one.
use Rattle.std.specs.Prelude.{ℕ, Option, Some, None, Result, Ok, Err}
use Rattle.rules.specs.Meaning.{State, at_rest, not_reopened, mid_turn}
use Rattle.rules.specs.Calls as rule
use Rattle.layout.specs.declared.Sector.{Sector}
use Rattle.layout.specs.Numbers.{sector_at}
use Rattle.answer.specs.declared.Refusal.{Refusal}
use Rattle.answer.specs.declared.Refusal.TheVariants as refusal

-- "2 no store: none of the three states"; "3 unfinished: a store but not at rest"
abbrev pub open_as : Option State → Result Sector Refusal
open_as None = Err refusal.NoStore
open_as (Some (at_rest w)) = Ok (sector_at w)
open_as (Some (not_reopened w)) = Err refusal.Unfinished
open_as (Some (mid_turn u)) = Err refusal.Unfinished

-- "a mount gives 1 when it began mid-turn, else 0"
unfoldable pub begun_as : Option State → Result ℕ Refusal
begun_as None = Err refusal.NoStore
begun_as (Some state) = Ok (rule.mount_turns state)
