-- The marks of the entries that have a later one of their ID, as they grow: by an entry of the sector itself, and by one of a newer sector.
-- Assumes nothing.
use mathlib.Core.Path.{◌≡◌, refl, sym, ap, ◌∙◌}
use mathlib.Core.Bool.{Bool, true, false}
use mathlib.Core.List.{List, [], ◌∷◌, ◌++◌, append_assoc}
use Rattle.std.specs.Prelude.{Option, Some, None}
use Rattle.std.proofs.lemmas.Option.{none-some}
use Prim.Native.Nat.{ℕ, ◌+◌, ◌-◌, ◌<◌, ◌≤◌}
use native.Mathlib.Numerals.{add-one}
use native.Mathlib.Omega.{arith}
use lib.ListN.{length, get_or, take, set, replicate, length-set}
use lib.Seq.{length-take-le, take-suc, set-append_left}
use Rattle.rules.specs.Look.{Head, done, deletion, value}
use Rattle.rules.specs.Reading.{Entry}
use Rattle.mask.specs.Flags.{padded}
use Rattle.mask.specs.Marks.{max_marks}
use Rattle.mask.proofs.Padded.{padded-next, padded-unset}
use Rattle.image.specs.Answer.{no_entry}
use Rattle.search.proofs.SearchLaws.{last-stands}
use Rattle.live.specs.Live.{renewed_flags, renewed_by}
use Rattle.live.proofs.RenewedLaws.{length-renewed, with_mark, one_later, one_more}

-- the entry that is renewed is one of those looked at
pub renewed-below : (h : Head) (count : ℕ) (es : List Entry) {m : ℕ} → renewed_by h count es ≡ Some m → m < count
unfolding renewed_by
renewed-below done count es {m} is = absurd (none-some m is)
renewed-below (deletion i) count es {m} is = (last-stands i es count m is).0
renewed-below (value i len) count es {m} is = (last-stands i es count m is).0

-- ---- the answer of a search, noted

module _ {o : Option ℕ} (flags : List Bool) where
  pub mark-found : {n : ℕ} → o ≡ Some n → set flags n true ≡ with_mark o flags
  unfolding with_mark
  mark-found is = rw is

  pub mark-missed : o ≡ None → flags ≡ with_mark o flags
  unfolding with_mark
  mark-missed is = rw is

-- ---- marks with none set behind them

module _ (room : ℕ) (flags : List Bool) where
  mark-padded : (o : Option ℕ) → ((m : ℕ) → o ≡ Some m → m < length flags) → with_mark o (padded room flags) ≡ padded room (with_mark o flags)
  unfolding with_mark padded
  mark-padded None low = refl
  mark-padded (Some m) low =
      set-append_left flags (replicate (room - length flags) false) m true (low m refl)
      ∙ ap (λ (n : ℕ). set flags m true ++ replicate (room - n) false) (sym (length-set flags m true))

  -- a flag that is not set changes nothing
  more-padded : length flags < room → padded room flags ≡ padded room (flags ++ (false ∷ []))
  more-padded h = padded-unset room flags h ∙ padded-next room flags h false

length-mark : (o : Option ℕ) (flags : List Bool) → length (with_mark o flags) ≡ length flags
unfolding with_mark
length-mark None flags = refl
length-mark (Some m) flags = length-set flags m true

module _ (es : List Entry) {marks after : List Bool} where
  -- entry n of the sector itself
  pub within-next : (n : ℕ) → n < length es → length es ≤ max_marks → marks ≡ padded max_marks (renewed_flags (take n es) [])
      → after ≡ with_mark (renewed_by (get_or es n no_entry).head n es) marks → after ≡ padded max_marks (renewed_flags (take (n + 1) es) [])
  within-next n here room before is =
      let flags : List Bool = renewed_flags (take n es) [] in
      let o : Option ℕ = renewed_by (get_or es n no_entry).head n es in
      let count : length flags ≡ n = length-renewed (take n es) [] ∙ length-take-le n es (omega arith) in
      is ∙ ap (with_mark o) before
      ∙ mark-padded max_marks flags o (λ m some-m. omega (arith, renewed-below (get_or es n no_entry).head n es some-m, count))
      ∙ more-padded max_marks (with_mark o flags) (omega (arith, length-mark o flags, count))
      ∙ ap (padded max_marks) (sym (one_more es n here))
      ∙ ap (λ (k : ℕ). padded max_marks (renewed_flags (take k es) [])) (sym (add-one n))

  -- entry n of another sector
  pub newer-next : {count : ℕ} → count ≡ length es → (later ts : List Entry) (n : ℕ) → n < length ts → marks ≡ padded max_marks (renewed_flags es (later ++ take n ts))
      → after ≡ with_mark (renewed_by (get_or ts n no_entry).head count es) marks → after ≡ padded max_marks (renewed_flags es (later ++ take (n + 1) ts))
  newer-next {count} all later ts n here before is =
      let e : Entry = get_or ts n no_entry in
      let flags : List Bool = renewed_flags es (later ++ take n ts) in
      let o : Option ℕ = renewed_by e.head count es in
      let more : later ++ take n ts ++ (e ∷ []) ≡ later ++ take (n + 1) ts =
      append_assoc later (take n ts) (e ∷ []) ∙ rw (add-one, take-suc ts n no_entry here) in
      is ∙ ap (with_mark o) before
      ∙ mark-padded max_marks flags o (λ m some-m. omega (arith, renewed-below e.head count es some-m, length-renewed es (later ++ take n ts)))
      ∙ ap (λ (k : ℕ). padded max_marks (with_mark (renewed_by e.head k es) flags)) all
      ∙ ap (padded max_marks) (sym (one_later e es (later ++ take n ts)) ∙ ap (renewed_flags es) more)
