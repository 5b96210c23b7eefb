-- The crate's types beside the plain data of the rules: `..Of` reads one as the other, `..As` gives the answer for it.
use Rattle.std.specs.Prelude.{ℕ, ◌-◌, ◌≤◌, Result, Ok, Err}
use Rattle.rules.specs.Ground.{kept_from_values, kept_from_deletions}
use Rattle.rules.specs.Look as rule
use Rattle.entry.specs.declared.Scan.{Scan}
use Rattle.entry.specs.declared.Head.{Head}
use Rattle.entry.specs.declared.Head.TheVariants as head
use Rattle.entry.specs.declared.Id.{Id}
use Rattle.entry.specs.declared.NoEntry.{NoEntry}
use Rattle.entry.specs.declared.NoEntry.TheVariants as no

-- an ID as the number that it is
abbrev pub id_no : Id → ℕ
id_no id = id.number

abbrev pub scan_of : Scan → rule.Scan
scan_of s = record { needs = s.needs; data_end = s.data_end; done = s.done }

abbrev pub scan_as : rule.Scan → Scan
scan_as s = record { needs = s.needs; data_end = s.data_end; done = s.done }

-- numbers that a sector can hold, so that no sum over them wraps
pub record Small (s : Scan) : Type 0 where
  pub needs : s.needs ≤ 4096
  pub data_end : s.data_end ≤ 4096

abbrev pub head_of : Head → rule.Head
head_of head.Done = rule.done
head_of (head.Deletion id) = rule.deletion id
head_of (head.Value id len) = rule.value id len

abbrev pub head_as : rule.Head → Head
head_as rule.done = head.Done
head_as (rule.deletion id) = head.Deletion id
head_as (rule.value id len) = head.Value id len

-- the length that a head tells
abbrev pub length_of : Head → ℕ
length_of head.Done = 0
length_of (head.Deletion id) = 0
length_of (head.Value id len) = len

-- the most that the needs of a sector may be with an entry of this head among them; a done needs none of it
unfoldable pub limit_of : (B : ℕ) → rule.Head → ℕ
limit_of B rule.done = B - kept_from_deletions
limit_of B (rule.deletion id) = B - kept_from_deletions
limit_of B (rule.value id len) = B - kept_from_values

-- why a block is no entry; of an entry no reason is asked
abbrev pub reason_of : rule.Verdict → NoEntry
reason_of (rule.entry h) = no.Blank
reason_of rule.blank = no.Blank
reason_of rule.other_cycle = no.OtherCycle
reason_of rule.wrong_check = no.WrongCheck
reason_of rule.wrong_form = no.WrongForm
reason_of rule.over_limit = no.OverLimit

-- an entry, with what its sector comes to after it, or why it is none
abbrev pub verdict_as : rule.Scan → rule.Verdict → Result (Head × Scan) NoEntry
verdict_as before (rule.entry h) = Ok (head_as h, scan_as (rule.after before h))
verdict_as before v = Err (reason_of v)
