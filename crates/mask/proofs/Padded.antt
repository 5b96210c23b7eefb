-- Flags with none set behind them: how they grow by one flag, and what they tell.
-- Assumes nothing.
use mathlib.Core.Path.{◌≡◌, sym, ap, ◌∙◌}
use mathlib.Core.Bool.{Bool, true, false}
use mathlib.Core.List.{List, [], ◌∷◌, ◌++◌}
use mathlib.Core.Logic.{by_cases}
use Prim.Native.Nat.{ℕ, suc, ◌+◌, ◌-◌, ◌≤◌, ◌<◌}
use native.Mathlib.Decide.{dec_lt}
use native.Mathlib.Numerals.{add-one}
use native.Mathlib.Omega.{arith}
use lib.ListN.{length, get_or, set, take, replicate, length-append, get_or-replicate, get_or-append, get_or-eq_default}
use lib.Seq.{length-take-le, take-suc, append_snoc, set-append_seam, get_or-append-add}
use Rattle.mask.specs.Flags.{padded}

module _ (room : ℕ) where
  -- ---- the flag behind those given

  module _ (flags : List Bool) (more : length flags < room) where
    next-flag : padded room flags ≡ flags ++ false ∷ replicate (room - suc (length flags)) false
    unfolding padded
    next-flag =
        let one_left : room - length flags ≡ suc (room - suc (length flags)) = omega arith in
        ap (λ (n : ℕ). flags ++ replicate n false) one_left

    pub padded-next : (f : Bool) → set (padded room flags) (length flags) f ≡ padded room (flags ++ (f ∷ []))
    unfolding padded
    padded-next f =
        let n : ℕ = room - suc (length flags) in
        let longer : length (flags ++ (f ∷ [])) ≡ length flags + 1 = length-append flags (f ∷ []) in
        let left : n ≡ room - length (flags ++ (f ∷ [])) = omega arith in
        ap (λ (l : List Bool). set l (length flags) f) next-flag
        ∙ set-append_seam flags false (replicate n false) f
        ∙ sym (append_snoc flags f (replicate n false))
        ∙ ap (λ (k : ℕ). flags ++ (f ∷ []) ++ replicate k false) left

    -- which is not set
    pub padded-unset : padded room flags ≡ set (padded room flags) (length flags) false
    padded-unset =
        let rest : List Bool = replicate (room - suc (length flags)) false in
        next-flag ∙ sym (set-append_seam flags false rest false) ∙ ap (λ (l : List Bool). set l (length flags) false) (sym next-flag)

  -- ---- the first i of some flags, and one more

  module _ (flags : List Bool) (few : length flags ≤ room) (i : ℕ) (here : i < length flags) where
    first : length (take i flags) ≡ i
    first = length-take-le i flags (omega arith)

    one_more : set (padded room (take i flags)) i (get_or flags i false) ≡ padded room (take (i + 1) flags)
    one_more =
        rw (add-one, take-suc flags i false here)
        (ap (λ (n : ℕ). set (padded room (take i flags)) n (get_or flags i false)) (sym first)
        ∙ padded-next (take i flags) (omega (arith, first)) (get_or flags i false))

    pub padded-set : get_or flags i false ≡ true → set (padded room (take i flags)) i true ≡ padded room (take (i + 1) flags)
    padded-set is = rw is at one_more

    pub padded-kept : get_or flags i false ≡ false → padded room (take i flags) ≡ padded room (take (i + 1) flags)
    padded-kept is =
        padded-unset (take i flags) (omega (arith, first))
        ∙ ap (λ (n : ℕ). set (padded room (take i flags)) n false) first
        ∙ rw is at one_more

  -- ---- a flag is that of the flags given, and none behind them is set

  pub padded-at : (flags : List Bool) (i : ℕ) → i < room → get_or (padded room flags) i false ≡ get_or flags i false
  unfolding padded
  padded-at flags i inside =
      let n : ℕ = room - length flags in
      by_cases (dec_lt i (length flags))
      (λ h. get_or-append flags (replicate n false) false i h)
      (λ h.
      let behind : i ≡ length flags + (i - length flags) = omega arith in
      ap (λ (k : ℕ). get_or (flags ++ replicate n false) k false) behind
      ∙ get_or-append-add flags (replicate n false) (i - length flags) false
      ∙ get_or-replicate n (i - length flags) false false (omega arith)
      ∙ sym (get_or-eq_default flags false {n = i} (omega arith)))
