-- How steps under a budget compose: the stores of one and then those of the next are those of both, and where one was cut, whatever
-- was to follow is not made. What it turns on: what stores leave of a budget (`Spent`), and of an image.
-- Assumes nothing.
use mathlib.Core.Path.{◌≡◌, refl, sym, ap, ap₂, subst, ◌∙◌}
use mathlib.Core.Bool.{Bool, true, false, ◌||◌}
use mathlib.Core.List.{List, [], ◌++◌}
use Prim.Native.Nat.{ℕ, ◌-◌, ◌/◌, ◌≤◌, ◌<◌}
use native.Mathlib.Omega.{arith}
use lib.Dec.{ltb}
use lib.ListN.{length, take, length-append}
use lib.Seq.{take_all, take-nil, take-append-le}
use borrow.Author.Tests.{ltb-true, ltb-false, lt-ltb, le-ltb}
use Rattle.std.specs.Prelude.{Result, Ok, Err, is_err}
use Rattle.rules.specs.Notation.{Each}
use Rattle.rules.specs.Ground.{Image, block_size, image_of}
use Rattle.rules.specs.Meaning.{views_of}
use Rattle.rules.specs.Stores.{Store, Plan, apply, apply_bytes, ◌and_then◌}
use Rattle.rules.specs.Calls as call
use Rattle.rules.specs.Calls.{make, answer, leaves}
use Rattle.rules.proofs.Basics.Lists.{take-append}
use Rattle.rules.proofs.Basics.Parts.{each_take}
use Rattle.rules.proofs.Basics.Places.{at_each}
use Rattle.rules.proofs.Terms.{IsImage}
use Rattle.rules.proofs.Blocks.OnBytes.{Lies, image-of-bytes, stored, stored-append}
use Rattle.rules.proofs.Due.Calls.{answer-whole, answer-cut, made-make}
use Rattle.layout.specs.declared.Geometry.{Geometry}
use Rattle.layout.specs.Geometry.{blocks_of, sectors_of}
use Rattle.budget.specs.declared.Budget.{Budget}
use Rattle.budget.specs.declared.Cut.{Cut}
use Rattle.budget.specs.declared.Writer.{Writer}
use Rattle.budget.specs.Budget.{budget_of, spent, held, shown, Did}
use Rattle.budget.proofs.Spent.{spent-left, spent-none, spent-append, spent-up, below-sum}

-- what a writer holds are bytes
pub typed : (w : Writer) → Each (λ b. b < 256) w.image.now
typed w = at_each (λ b. b < 256) 0 w.image.now (λ i h. w.typed i)

-- and so what its blocks are
pub whole_image : (w : Writer) → IsImage (blocks_of w.geometry) (sectors_of w.geometry) (held w)
whole_image w = image-of-bytes (blocks_of w.geometry) (sectors_of w.geometry) w.image.now (typed w) w.backs.sized

-- ---- steps

module _ {T : Type 0} {w w' : Writer} {ss : List Store} {r : Result T Cut} (did : Did w ss w' r) where
  pub did-left : w'.budget.left ≡ w.budget.left - length ss
  did-left = ap (λ (x : Budget). x.left) did.left ∙ spent-left w.budget ss

  -- not cut: the stores were within the budget; cut: they were more
  pub did-within : is_err r ≡ false → length ss ≤ w.budget.left
  did-within e = ltb-false w.budget.left (length ss) (sym did.cut ∙ e)

  pub did-above : is_err r ≡ true → w.budget.left < length ss
  did-above e = ltb-true w.budget.left (length ss) (sym did.cut ∙ e)

  -- the blocks afterwards: of as many stores as the budget had, and of all where it was not cut
  pub did-image : Each (Lies (blocks_of w.geometry) (sectors_of w.geometry)) ss → held w' ≡ apply (take w.budget.left ss) (held w)
  did-image inside =
      ap (λ (g : Geometry). image_of (blocks_of g) (sectors_of g) w'.image.now) did.geometry
      ∙ ap (image_of (blocks_of w.geometry) (sectors_of w.geometry)) did.image
      ∙ stored (blocks_of w.geometry) (sectors_of w.geometry) (take w.budget.left ss) w.image.now (each_take w.budget.left inside) w.backs.sized

  pub did-whole : Each (Lies (blocks_of w.geometry) (sectors_of w.geometry)) ss → is_err r ≡ false → held w' ≡ apply ss (held w)
  did-whole inside e =
      did-image inside ∙ ap (λ (xs : List Store). apply xs (held w)) (take_all w.budget.left ss (did-within e))

-- what the sectors show afterwards, by the blocks
pub did-shown : {T : Type 0} {w w' : Writer} {ss : List Store} {r : Result T Cut} → Did w ss w' r → {im : Image} → held w' ≡ im
    → shown w' ≡ views_of (blocks_of w.geometry) im
did-shown {w' = w'} did same = ap (λ (g : Geometry). views_of (blocks_of g) (held w')) did.geometry ∙ ap (views_of _) same

-- all of the stores, as a loop that goes by `?` has made them so far
abbrev pub Made : Writer → List Store → Writer → Type 0
Made w ss w' = Did {T = Unit {0}} w ss w' (Ok (tt {0}))

-- no store
pub did_none : {T : Type 0} (w : Writer) (x : T) → Did w [] w (Ok x)
unfolding apply_bytes
did_none w x =
    record {
      image = ap (λ (ss : List Store). apply_bytes (blocks_of w.geometry) ss w.image.now) (sym (take-nil w.budget.left));
      left = sym (spent-none w.budget);
      cut = sym (le-ltb w.budget.left 0 (omega arith));
      geometry = refl;
      same = refl;
    }

-- the same answer, but for what it carries
pub did-as : {T U : Type 0} {w w' : Writer} {ss : List Store} {r : Result T Cut} {r' : Result U Cut}
    → is_err r' ≡ is_err r → Did w ss w' r → Did w ss w' r'
did-as same did =
    record { image = did.image; left = did.left; cut = same ∙ did.cut; geometry = did.geometry; same = did.same }

-- one step, not cut, and then another
pub did_then : {T U : Type 0} {w w' w'' : Writer} {xs ys : List Store} {x : T} {r : Result U Cut}
    → Did w xs w' (Ok x) → Did w' ys w'' r → Did w (xs ++ ys) w'' r
did_then {w = w} {w' = w'} {xs = xs} {ys = ys} one two =
    let B : ℕ = blocks_of w.geometry in
    let left : ℕ = w.budget.left in
    record {
      image =
          two.image
          ∙ ap (λ (g : Geometry). apply_bytes (blocks_of g) (take w'.budget.left ys) w'.image.now) one.geometry
          ∙ ap₂ (λ (n : ℕ) (bytes : List ℕ). apply_bytes B (take n ys) bytes) (did-left one) one.image
          ∙ sym (stored-append B (take left xs) (take (left - length xs) ys) w.image.now)
          ∙ ap (λ (ss : List Store). apply_bytes B ss w.image.now) (sym (take-append left xs ys));
      left = two.left ∙ ap (λ (x : Budget). spent x ys) one.left ∙ sym (spent-append w.budget xs ys);
      cut =
          two.cut
          ∙ ap (λ (n : ℕ). ltb n (length ys)) (did-left one)
          ∙ ap (λ (t : Bool). t || ltb (left - length xs) (length ys)) one.cut
          ∙ sym (below-sum left (length xs) (length ys))
          ∙ ap (ltb left) (sym (length-append xs ys));
      geometry = two.geometry ∙ one.geometry;
      same = two.same ∙ one.same;
    }

-- the exit of a `?`: a step that was cut is all that was made, whatever was to follow
pub did-cut : {T U : Type 0} {w w' : Writer} {xs : List Store} {e : Cut} {r : Result U Cut} (ys : List Store)
    → Did {T = T} w xs w' (Err e) → is_err r ≡ true → Did w (xs ++ ys) w' r
did-cut {w = w} {xs = xs} ys did cut =
    let above : w.budget.left < length xs = did-above did refl in
    record {
      image =
          did.image
          ∙ ap (λ (ss : List Store). apply_bytes (blocks_of w.geometry) ss w.image.now) (sym (take-append-le w.budget.left xs ys (omega arith)));
      left = did.left ∙ sym (spent-up w.budget xs ys (omega arith));
      cut = cut ∙ sym (lt-ltb w.budget.left (length (xs ++ ys)) (omega (arith, length-append xs ys)));
      geometry = did.geometry;
      same = did.same;
    }

-- ---- plans

-- the second plan goes by the image that the first one leaves
pub did-and-then : {T U : Type 0} {w w' w'' : Writer} {x : T} {r : Result U Cut} (first : Plan) (second : Geometry → Plan)
    → Each (Lies (blocks_of w.geometry) (sectors_of w.geometry)) (first (held w))
    → Did w (first (held w)) w' (Ok x) → Did w' (second w'.geometry (held w')) w'' r → Did w ((first and_then second w.geometry) (held w)) w'' r
unfolding ◌and_then◌
did-and-then {w = w} {w' = w'} {w'' = w''} {r = r} first second inside one two =
    let here = subst (λ (g : Geometry). Did w' (second g (held w')) w'' r) one.geometry two in
    did_then one (subst (λ (im : Image). Did w' (second w.geometry im) w'' r) (did-whole one inside refl) here)

pub did-and-then-cut : {T U : Type 0} {w w' : Writer} {e : Cut} {r : Result U Cut} (first second : Plan) (im : Image)
    → Did {T = T} w (first im) w' (Err e) → is_err r ≡ true → Did w ((first and_then second) im) w' r
unfolding ◌and_then◌
did-and-then-cut first second im did cut = did-cut (second (apply (first im) im)) did cut

-- ---- the whole of a call

module _ {T : Type 0} {w w' : Writer} {ss : List Store} {a : ℕ} {r : Result T Cut} (begun : w.budget ≡ budget_of a) (did : Did w ss w' r) where
  allowed : w.budget.left ≡ a
  allowed = ap (λ (x : Budget). x.left) begun

  -- the stores made are the allowance less what is left of it
  pub did-count : is_err r ≡ false → length ss ≡ a - w'.budget.left
  did-count e = omega (arith, allowed, did-left did, did-within did e)

  pub did-answer-done : (turns : ℕ) → is_err r ≡ false → answer (make ss turns) a ≡ call.done (a - w'.budget.left) turns
  did-answer-done turns e =
      answer-whole ss turns a (omega (arith, allowed, did-within did e)) ∙ ap (λ (n : ℕ). call.done n turns) (did-count e)

  pub did-answer-cut : (turns : ℕ) → is_err r ≡ true → answer (make ss turns) a ≡ call.cut a
  did-answer-cut turns e = answer-cut ss turns a (omega (arith, allowed, did-above did e))

  pub did-leaves : (size turns : ℕ) → blocks_of w.geometry ≡ size / block_size → w'.image.now ≡ leaves size (make ss turns) a w.image.now
  unfolding leaves
  did-leaves size turns same =
      did.image
      ∙ ap (λ (n : ℕ). apply_bytes (blocks_of w.geometry) (take n ss) w.image.now) allowed
      ∙ ap₂ (λ (B : ℕ) (xs : List Store). apply_bytes B xs w.image.now) same (sym (made-make ss turns a))
