-- What a mask holds: one flag a sector, and so a list of sector numbers.
use Rattle.std.specs.Prelude.{◌≡◌, Bool, true, false, List, [], ◌∷◌, ◌++◌, ℕ, zero, suc, ◌-◌, ◌/◌, ◌%◌, ◌≤◌, eqb, length, replicate}
use Rattle.rules.specs.Notation.{places_from}
use Rattle.rules.specs.Ground.{max_sectors}
use Rattle.mask.specs.declared.Mask.{Mask}

-- the lowest k bits of a word, the lowest first
unfoldable pub bits_of : ℕ → ℕ → List Bool
bits_of zero n = []
bits_of (suc k) n = eqb (n % 2) 1 ∷ bits_of k (n / 2)

-- a flag for each sector that a store can have, sector 0 first
unfoldable pub flags_of : Mask → List Bool
flags_of m = bits_of max_sectors m.0

-- the sectors whose flag is set, lowest first
unfoldable pub sectors_in : Mask → List ℕ
sectors_in m = places_from 0 (λ (f : Bool). f) (flags_of m)

unfoldable pub is_singleton {ℓ} : {A : Type ℓ} → List A → Bool
is_singleton [] = false
is_singleton (x ∷ []) = true
is_singleton (x ∷ y ∷ xs) = false

-- these flags, and none set behind them, so that there are as many as there is room for
unfoldable pub padded : (room : ℕ) → List Bool → List Bool
padded room flags = flags ++ replicate (room - length flags) false

-- The mask holds these flags, and no sector after them.
pub record Holds (m : Mask) (flags : List Bool) : Type 0 where
  pub few : length flags ≤ max_sectors
  pub exact : flags_of m ≡ padded max_sectors flags
