-- What a read answers, by what is told of the ID: the four cases of its rule.
-- Assumes nothing.
use mathlib.Core.Path.{◌≡◌, sym, ap, ap₂, ◌∙◌}
use mathlib.Core.Bool.{true, false}
use mathlib.Core.List.{List, ◌++◌}
use mathlib.Core.Option as rule-option
use mathlib.Core.Option.{none}
use Rattle.std.specs.Prelude.{Option}
use Prim.Native.Nat.{ℕ, ◌+◌, ◌-◌, ◌<◌, ◌≤◌}
use native.Mathlib.Omega.{arith}
use lib.ListN.{length, take, drop}
use borrow.Author.Tests.{lt-ltb, le-ltb}
use Rattle.rules.specs.Reading.{Entry}
use Rattle.rules.specs.Meaning.{is_sound}
use Rattle.rules.specs.Calls as rule
use Rattle.rules.specs.Calls.{read_entry, buffer_after}
use Rattle.rules.proofs.Basics.Lists.{length_part}
use Rattle.search.specs.Value.{passes}
use Rattle.search.proofs.Valued.{Holds}

-- a value's bytes, as they are lent
pub part_lem : (bytes : List ℕ) (len : ℕ) {start place : ℕ} → start ≡ place → take (start + len - start) (drop start bytes) ≡ take len (drop place bytes)
part_lem bytes len {start} {place} same =
    let long : start + len - start ≡ len = omega arith in
    ap₂ (λ (n p : ℕ). take n (drop p bytes)) long same

pub reply-absent : (room : ℕ) {told : rule-option.Option Entry} → told ≡ none → read_entry room told ≡ rule.refused rule.absent
unfolding read_entry
reply-absent room e = rw e

module _ {bytes : List ℕ} {told : rule-option.Option Entry} {place len : ℕ} {check : Option ℕ} (h : Holds bytes told place len check) (room : ℕ) where
  pub reply-short : room < len → read_entry room told ≡ rule.refused (rule.short_buffer len)
  unfolding read_entry
  reply-short short = rw (h.told, h.length, lt-ltb room len short)

  checked : is_sound h.entry ≡ passes check (take len (drop place bytes))
  checked = h.checked ∙ ap (passes check) h.lies

  pub reply-bad : len ≤ room → passes check (take len (drop place bytes)) ≡ false → read_entry room told ≡ rule.refused rule.bad_data
  unfolding read_entry
  reply-bad fits wrong = rw (h.told, h.length, le-ltb room len fits, checked ∙ wrong)

  pub reply-found : len ≤ room → passes check (take len (drop place bytes)) ≡ true → read_entry room told ≡ rule.found h.entry
  unfolding read_entry
  reply-found fits right = rw (h.told, h.length, le-ltb room len fits, checked ∙ right)

  -- "buffer's first bytes the value, rest unchanged"
  pub buffer-found : (buffer : List ℕ)
      → buffer_after (rule.found h.entry) buffer ≡ take len (drop place bytes) ++ drop (length (take len (drop place bytes))) buffer
  unfolding buffer_after
  buffer-found buffer = rw (h.lies, h.length, length_part len place bytes h.inside)

-- the answer, as it is told, and the buffer together
pub both {ℓ} : {A : Type ℓ} (told : rule.Reply → A) {reply due : rule.Reply} (buffer : List ℕ) → due ≡ reply
    → (told reply ≡ told due) × (buffer_after reply buffer ≡ buffer_after due buffer)
both told buffer e = (ap told (sym e), ap (λ (r : rule.Reply). buffer_after r buffer) (sym e))
