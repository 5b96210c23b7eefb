-- What a caller learns of the flags of live values: the entries whose flag is set are the live values, and one flag tells of one entry.
-- Assumes nothing.
use Rattle.std.specs.Prelude.{cond, if◌then◌else◌}
use mathlib.Core.Path.{◌≡◌, refl, ap, ◌∙◌}
use mathlib.Core.Bool.{Bool, true, false}
use mathlib.Core.List.{List, [], ◌∷◌, ◌++◌}
use Prim.Native.Nat.{ℕ, zero, suc, ◌+◌, ◌≤◌, ◌<◌}
use native.Mathlib.Nat.{le_of_suc-le-suc}
use native.Mathlib.Numerals.{add-one}
use native.Mathlib.Omega.{arith}
use lib.ListN.{length, get_or, drop, drop_of_length-le}
use lib.Seq.{drop-cons}
use Rattle.rules.specs.Reading.{Entry, View}
use Rattle.rules.specs.Meaning.{view_at, entries_in, newer_than, live_among, live_in}
use Rattle.rules.proofs.Ring.Live.{is_live}
use Rattle.live.specs.Live.{live_flags, live_flags_in}

-- ---- the elements whose flag is set

module _ {ℓ} {A : Type ℓ} where
  unfoldable pub chosen : List Bool → List A → List A
  chosen [] xs = []
  chosen (f ∷ fs) [] = []
  chosen (f ∷ fs) (x ∷ xs) = cond f (x ∷ chosen fs xs) (chosen fs xs)

  -- from place n on
  module _ (flags : List Bool) (xs : List A) (same : length flags ≡ length xs) where
    module _ (n : ℕ) (d : A) (here : n < length xs) where
      next-chosen : chosen (drop n flags) (drop n xs)
          ≡ cond (get_or flags n false) (get_or xs n d ∷ chosen (drop (n + 1) flags) (drop (n + 1) xs)) (chosen (drop (n + 1) flags) (drop (n + 1) xs))
      unfolding chosen
      next-chosen =
          let flag : n < length flags = omega arith in
          rw (add-one, drop-cons flags n false flag, drop-cons xs n d here)

      pub chosen-here : get_or flags n false ≡ true → chosen (drop n flags) (drop n xs) ≡ get_or xs n d ∷ chosen (drop (n + 1) flags) (drop (n + 1) xs)
      chosen-here is = next-chosen ∙ rw is

      pub chosen-passed : get_or flags n false ≡ false → chosen (drop n flags) (drop n xs) ≡ chosen (drop (n + 1) flags) (drop (n + 1) xs)
      chosen-passed is = next-chosen ∙ rw is

    pub chosen-end : (n : ℕ) → length xs ≤ n → chosen (drop n flags) (drop n xs) ≡ []
    unfolding chosen
    chosen-end n past = let none_left : length flags ≤ n = omega arith in rw (drop_of_length-le flags {i = n} none_left)

-- ---- the flags of live values

pub length-live-flags : (es later : List Entry) → length (live_flags es later) ≡ length es
unfolding live_flags
length-live-flags [] later = refl
length-live-flags (e ∷ es) later = ap suc (length-live-flags es later)

-- they choose the live values
chosen_live : (es later : List Entry) → chosen (live_flags es later) es ≡ live_among es later
unfolding chosen live_flags live_among
chosen_live [] later = refl
chosen_live (e ∷ es) later =
    ap (λ (l : List Entry). if is_live e (es ++ later) then e ∷ l else l) (chosen_live es later)

-- and each tells of its own entry, with all that are later
pub live-flag : (es later : List Entry) (n : ℕ) (d : Entry) → n < length es
    → get_or (live_flags es later) n false ≡ is_live (get_or es n d) (drop (suc n) es ++ later)
unfolding live_flags
live-flag [] later n d h = absurd (omega arith)
live-flag (e ∷ es) later zero d h = refl
live-flag (e ∷ es) later (suc n) d h = live-flag es later n d (le_of_suc-le-suc h)

-- by sector number
module _ (u s : ℕ) (views : List View) where
  pub length-live-in : length (live_flags_in u s views) ≡ length (view_at views s).entries
  unfolding live_flags_in
  length-live-in = length-live-flags (view_at views s).entries (entries_in (newer_than u s views))

  pub chosen-live-in : chosen (live_flags_in u s views) (view_at views s).entries ≡ live_in u s views
  unfolding live_flags_in live_in
  chosen-live-in = chosen_live (view_at views s).entries (entries_in (newer_than u s views))
