-- `put` makes the one store or is cut. What it turns on: of one store a budget allows all, or it has nothing left.
-- Assumes nothing.
use mathlib.Core.Path.{◌≡◌, refl, sym, ap, ◌∙◌}
use mathlib.Core.List.{List, [], ◌∷◌}
use Prim.Native.Nat.{ℕ, ◌-◌, ◌≤◌}
use native.Mathlib.Omega.{arith}
use lib.ListN.{take}
use lib.Seq.{take_all}
use borrow.Author.Tests.{lt-ltb, le-ltb}
use Rattle.std.specs.Prelude.{Some, Ok, Err}
use Rattle.rules.specs.Ground.{store_bytes}
use Rattle.rules.specs.Stores.{Store, apply_bytes}
use Rattle.layout.specs.declared.Sector.{Sector}
use Rattle.layout.specs.declared.Block.{Block}
use Rattle.layout.specs.Numbers.{sector_no, block_no}
use Rattle.layout.specs.Geometry.{blocks_of}
use Rattle.budget.specs.declared.Kind.{Kind}
use Rattle.budget.specs.declared.Writer.{Writer}
use Rattle.budget.specs.Budget.{store_of, last_of, spent, Did}
use Rattle.budget.proofs.Spent.{same-budget, kind-as-of}
use Rattle.budget.proofs.Writer.put.Goals as goal

did_nothing : (w : Writer) (st : Store) → w.budget.left ≡ 0 → Did {T = Unit {0}} w (st ∷ []) w (Err record {})
unfolding apply_bytes spent last_of
did_nothing w st none =
    record {
      image = ap (λ (n : ℕ). apply_bytes (blocks_of w.geometry) (take n (st ∷ [])) w.image.now) (sym none);
      left = same-budget (omega arith) (ap (λ (n : ℕ). last_of w.budget.last (take n (st ∷ []))) (sym none));
      cut = sym (lt-ltb w.budget.left 1 (omega arith));
      geometry = refl;
      same = refl;
    }

did-store : (w w' : Writer) (s : Sector) (at : Block) (k : Kind) (bytes : List ℕ) → 1 ≤ w.budget.left
    → w'.image.now ≡ store_bytes (blocks_of w.geometry) w.image.now (sector_no s) (block_no at) bytes
    → w'.budget ≡ record { left = w.budget.left - 1; last = Some record { sector = s; block = at; kind = k } }
    → w'.geometry ≡ w.geometry → w'.image.ghost_name ≡ w.image.ghost_name
    → Did w (store_of s at k bytes ∷ []) w' (Ok (tt {0}))
unfolding apply_bytes spent last_of
did-store w w' s at k bytes some stored spent geometry same =
    let st : Store = store_of s at k bytes in
    let whole : take w.budget.left (st ∷ []) ≡ (st ∷ []) = take_all w.budget.left (st ∷ []) (omega arith) in
    record {
      image = stored ∙ ap (λ (ss : List Store). apply_bytes (blocks_of w.geometry) ss w.image.now) (sym whole);
      left =
          spent
          ∙ same-budget refl
          (ap (λ (k : Kind). Some record { sector = s; block = at; kind = k }) (sym (kind-as-of k)) ∙ ap (last_of w.budget.last) (sym whole));
      cut = sym (le-ltb w.budget.left 1 some);
      geometry = geometry;
      same = same;
    }

pub returns-then-self-eq0 : goal.returns-then-self-eq0
returns-then-self-eq0 c = did_nothing c.args.self.now (store_of c.args.s c.args.b c.args.kind c.args.bytes) c.if-self-eq0.true

pub returns : goal.returns
returns c =
    did-store c.args.self.now _ c.args.s c.args.b c.args.kind c.args.bytes (omega arith) c.store_block.ensures.stored refl refl refl
