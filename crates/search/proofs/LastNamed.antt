-- The last of some entries that names an ID: how it moves with an entry in front, whether there is one, and that only the first entries count.
-- Assumes nothing.
use mathlib.Core.Path.{◌≡◌, refl, ap, ◌∙◌}
use mathlib.Core.Bool.{Bool, true, false, ◌||◌, or-true}
use mathlib.Core.List.{List, [], ◌∷◌}
use Rattle.std.specs.Prelude.{Option, Some, None, if◌then◌else◌}
use Prim.Native.Nat.{ℕ, zero, suc, ◌≤◌}
use native.Mathlib.Omega.{arith}
use lib.ListN.{length, get_or, take}
use lib.Seq.{get_or-take}
use Rattle.rules.specs.Notation.{any}
use Rattle.rules.specs.Reading.{Entry}
use Rattle.rules.specs.Meaning.{is_named}
use Rattle.rules.proofs.Basics.Notation.{by-test}
use Rattle.rules.proofs.Ring.Changes.{are_named}
use Rattle.image.specs.Answer.{no_entry}
use Rattle.search.specs.Search.{last_named_below, last_named}

-- An entry in front moves the last one up by one place, and is itself the last one where there is no other.
unfoldable pub behind : (first : Bool) → Option ℕ → Option ℕ
behind first None = if first then Some 0 else None
behind first (Some m) = Some (suc m)

pub last-behind : (id n : ℕ) (x : Entry) (es : List Entry) → last_named_below id (suc n) (x ∷ es) ≡ behind (is_named id x.head) (last_named_below id n es)
unfolding last_named_below behind
last-behind id zero x es = by-test (is_named id x.head) (λ t. rw t) (λ f. rw f)
last-behind id (suc n) x es =
    by-test (is_named id (get_or es n no_entry).head)
    (λ t. simp t)
    (λ f. simp f (last-behind id n x es))

-- is there one?
unfoldable pub is_found : Option ℕ → Bool
is_found None = false
is_found (Some n) = true

found-behind : (first : Bool) (o : Option ℕ) → is_found (behind first o) ≡ (first || is_found o)
unfolding is_found behind
found-behind true None = refl
found-behind false None = refl
found-behind first (Some m) = rw or-true

-- there is a last one exactly where one of them names the ID
pub found : (id : ℕ) (es : List Entry) → is_found (last_named id es) ≡ are_named id es
unfolding is_found last_named last_named_below any
found id [] = refl
found id (x ∷ es) =
    ap is_found (last-behind id (length es) x es)
    ∙ found-behind (is_named id x.head) (last_named id es)
    ∙ ap (λ (b : Bool). is_named id x.head || b) (found id es)

-- only the first entries count
pub last-first : (id n m : ℕ) (es : List Entry) → m ≤ n → last_named_below id m (take n es) ≡ last_named_below id m es
unfolding last_named_below
last-first id n zero es h = refl
last-first id n (suc m) es h =
    let same : get_or (take n es) m no_entry ≡ get_or es m no_entry = get_or-take n es m no_entry h in
    rw (same, last-first id n m es (omega arith))
