-- The steps of a turn: what an atomic step leaves, and how a turn goes on after its close and its copies.
-- Assumes nothing.
use mathlib.Core.Path.{◌≡◌, refl, sym, ap, ◌∙◌}
use mathlib.Core.Bool.{true}
use mathlib.Core.List.{List}
use Prim.Native.Nat.{ℕ, ◌<◌}
use native.Mathlib.Omega.{arith}
use Rattle.std.specs.Prelude.{Result, Ok, Err, is_err}
use Rattle.std.proofs.lemmas.Result.{IfOk-weaker, IfOk-from_err}
use Rattle.rules.specs.Notation.{Each}
use Rattle.rules.specs.Ground.{Image}
use Rattle.rules.specs.Reading.{View}
use Rattle.rules.specs.Meaning.{view_at, next}
use Rattle.rules.specs.Stores.{Plan, ◌and_then◌}
use Rattle.rules.proofs.Terms.{IsAtomic, changed}
use Rattle.rules.proofs.Blocks.OnBytes.{Lies, inside-lie}
use Rattle.rules.proofs.Ring.History.{changed-here, changed-other}
use Rattle.layout.specs.declared.Geometry.{Geometry}
use Rattle.layout.specs.Geometry.{blocks_of, sectors_of}
use Rattle.image.proofs.Sectors.{views-count}
use Rattle.budget.specs.declared.Cut.{Cut}
use Rattle.budget.specs.declared.Writer.{Writer}
use Rattle.budget.specs.Budget.{held, shown, Did}
use Rattle.image.specs.declared.active.Active.{Active}
use Rattle.budget.proofs.Laws.{did-whole, did-shown, did-and-then, did-and-then-cut}
use Rattle.turn.specs.Turn.{Turned}

-- ---- an atomic step, made whole

module _ (w : Writer) {plan : Plan} {views : List View} (atomic : IsAtomic (blocks_of w.geometry) (sectors_of w.geometry) plan (held w) views) where
  -- its stores lie within the image
  pub atomic-lies : Each (Lies (blocks_of w.geometry) (sectors_of w.geometry)) (plan (held w))
  atomic-lies = inside-lie atomic.inside

  pub atomic-views : {T : Type 0} {w' : Writer} {x : T} → Did w (plan (held w)) w' (Ok x) → shown w' ≡ views
  atomic-views did = did-shown did (did-whole did atomic-lies refl) ∙ atomic.whole

-- in one sector
module _ {T : Type 0} (w : Writer) {w' : Writer} {plan : Plan} (f : View → View) (s : ℕ) {x : T}
    (atomic : IsAtomic (blocks_of w.geometry) (sectors_of w.geometry) plan (held w) (changed f s (shown w))) (did : Did w (plan (held w)) w' (Ok x)) where
  pub step-here : s < sectors_of w.geometry → view_at (shown w') s ≡ f (view_at (shown w) s)
  step-here inside =
      ap (λ (vs : List View). view_at vs s) (atomic-views w atomic did)
      ∙ changed-here f s (shown w) (omega (arith, views-count w.geometry w.image.now))

  pub step-others : (t : ℕ) → (t ≡ s → ⊥) → view_at (shown w') t ≡ view_at (shown w) t
  step-others t other = ap (λ (vs : List View). view_at vs t) (atomic-views w atomic did) ∙ changed-other f s (shown w) t other

-- ---- a step, and then the rest of a turn to sector u

-- a step that leaves the entries of every sector but u
pub turned_then : {T : Type 0} {u : ℕ} {w w' w'' : Writer} {x : T} {r : Result Active Cut} (first : Plan) (second : Geometry → Plan)
    → Each (Lies (blocks_of w.geometry) (sectors_of w.geometry)) (first (held w))
    → Did w (first (held w)) w' (Ok x)
    → ((t : ℕ) → (t ≡ u → ⊥) → (view_at (shown w') t).entries ≡ (view_at (shown w) t).entries)
    → Turned u w' (second w'.geometry (held w')) w'' r
    → Turned u w ((first and_then second w.geometry) (held w)) w'' r
turned_then {u = u} {w = w} {w' = w'} {w'' = w''} {r = r} first second lie one kept two =
    record {
      did = did-and-then first second lie one two.did;
      moved = IfOk-weaker r _ _
          (λ a m.
          let same : next (sectors_of w.geometry) u ≡ next (sectors_of w'.geometry) u = ap (λ (g : Geometry). next (sectors_of g) u) (sym one.geometry) in
          record {
            told = m.told;
            unused = ap (λ (s : ℕ). (view_at (shown w'') s).entries) same ∙ m.unused;
            others = λ t other away. m.others t other (λ e. away (e ∙ sym same)) ∙ kept t other;
          })
          two.moved;
    }

pub turned-cut : {T : Type 0} {u : ℕ} {w w' : Writer} {e : Cut} {r : Result Active Cut} (first second : Plan) (im : Image)
    → Did {T = T} w (first im) w' (Err e) → is_err r ≡ true → Turned u w ((first and_then second) im) w' r
turned-cut {r = r} first second im one cut =
    record { did = did-and-then-cut first second im one cut; moved = IfOk-from_err r _ cut }
