-- What stores leave of a budget: one list of stores after another, and what a cut says. What it turns on: the first n of two lists
-- in a row are the first n of one, and of the other as many as that leaves.
-- Assumes nothing.
use mathlib.Core.Path.{◌≡◌, refl, sym, ap, ap₂, ◌∙◌}
use mathlib.Core.Bool.{Bool, ◌||◌}
use mathlib.Core.List.{List, [], ◌∷◌, ◌++◌}
use Prim.Native.Nat.{ℕ, ◌+◌, ◌-◌, ◌≤◌}
use native.Mathlib.Omega.{arith}
use lib.Dec.{ltb}
use lib.ListN.{length, take, length-append}
use lib.Seq.{take-nil}
use borrow.Author.Tests.{ltb-true, ltb-false, lt-ltb, le-ltb}
use Rattle.std.specs.Prelude.{Option, Some}
use Rattle.rules.specs.Stores as rule
use Rattle.rules.proofs.Basics.Lists.{take-append}
use Rattle.rules.proofs.Basics.Notation.{by-test}
use Rattle.budget.specs.declared.Kind.{Kind}
use Rattle.budget.specs.declared.Kind.TheVariants as kind
use Rattle.budget.specs.declared.Store.{Store}
use Rattle.budget.specs.declared.Budget.{Budget}
use Rattle.budget.specs.Budget.{kind_of, kind_as, store_as, last_of, spent}

-- ---- kinds

pub kind-as-of : (k : Kind) → kind_as (kind_of k) ≡ k
kind-as-of kind.Lead = refl
kind-as-of kind.Close = refl
kind-as-of kind.Done = refl
kind-as-of kind.Value = refl
kind-as-of kind.Deletion = refl
kind-as-of kind.Data = refl
kind-as-of kind.Blank = refl

pub kind-of-as : (k : rule.Kind) → kind_of (kind_as k) ≡ k
kind-of-as rule.lead = refl
kind-of-as rule.close = refl
kind-of-as rule.done = refl
kind-of-as rule.value = refl
kind-of-as rule.deletion = refl
kind-of-as rule.data' = refl
kind-of-as rule.blank = refl

-- ---- what stores leave of a budget

-- a budget by its fields
pub same-budget : {b b' : Budget} → b.left ≡ b'.left → b.last ≡ b'.last → b ≡ b'
same-budget left last i = record { left = left i; last = last i }

pub spent-left : (b : Budget) (ss : List rule.Store) → (spent b ss).left ≡ b.left - length ss
unfolding spent
spent-left b ss = refl

-- an allowance is below two counts together where it is below the first, or what is left of it below the second
pub below-sum : (a m n : ℕ) → ltb a (m + n) ≡ (ltb a m || ltb (a - m) n)
below-sum a m n =
    by-test (ltb a m)
    (λ few. lt-ltb a (m + n) (omega (arith, ltb-true a m few)) ∙ ap (λ (t : Bool). t || ltb (a - m) n) (sym few))
    (λ enough.
    by-test (ltb (a - m) n)
    (λ few. lt-ltb a (m + n) (omega (arith, ltb-false a m enough, ltb-true (a - m) n few)) ∙ sym (ap₂ ◌||◌ enough few))
    (λ both. le-ltb a (m + n) (omega (arith, ltb-false a m enough, ltb-false (a - m) n both)) ∙ sym (ap₂ ◌||◌ enough both)))

last-append : (told : Option Store) (xs ys : List rule.Store) → last_of told (xs ++ ys) ≡ last_of (last_of told xs) ys
unfolding last_of
last-append told [] ys = refl
last-append told (x ∷ xs) ys = last-append (Some (store_as x)) xs ys

pub spent-none : (b : Budget) → spent b [] ≡ b
unfolding spent last_of
spent-none b = same-budget (omega arith) (ap (last_of b.last) (take-nil b.left))

pub spent-append : (b : Budget) (xs ys : List rule.Store) → spent b (xs ++ ys) ≡ spent (spent b xs) ys
unfolding spent
spent-append b xs ys =
    same-budget (omega (arith, length-append xs ys))
    (ap (last_of b.last) (take-append b.left xs ys)
    ∙ last-append b.last (take b.left xs) (take (b.left - length xs) ys))

-- nothing more is made once nothing is left
pub spent-up : (b : Budget) (xs ys : List rule.Store) → b.left ≤ length xs → spent b (xs ++ ys) ≡ spent b xs
unfolding spent last_of
spent-up b xs ys none =
    spent-append b xs ys
    ∙ same-budget (omega arith) (ap (λ (n : ℕ). last_of (last_of b.last (take b.left xs)) (take n ys)) gone)
  where
    gone : b.left - length xs ≡ 0
    gone = omega arith
