-- The budget: what stores leave of it, and the one record by which a step says what it did to the image and the budget.
-- `..Of` reads a type of the crate as the plain data of the rules, `..As` gives the answer for it.
use Rattle.std.specs.Prelude.{◌≡◌, List, [], ◌∷◌, ℕ, ◌-◌, ltb, length, take, Option, Some, None, Result, is_err}
use Rattle.rules.specs.Ground.{Image, image_of}
use Rattle.rules.specs.Reading.{View}
use Rattle.rules.specs.Meaning.{views_of}
use Rattle.rules.specs.Stores as rule
use Rattle.rules.specs.Stores.{apply_bytes}
use Rattle.layout.specs.declared.Sector.{Sector}
use Rattle.layout.specs.declared.Block.{Block}
use Rattle.layout.specs.Numbers.{sector_no, sector_at, block_no, block_numbered}
use Rattle.layout.specs.Geometry.{blocks_of, sectors_of}
use Rattle.budget.specs.declared.Kind.{Kind}
use Rattle.budget.specs.declared.Kind.TheVariants as kind
use Rattle.budget.specs.declared.Store.{Store}
use Rattle.budget.specs.declared.Budget.{Budget}
use Rattle.budget.specs.declared.Cut.{Cut}
use Rattle.budget.specs.declared.Writer.{Writer}

abbrev pub kind_of : Kind → rule.Kind
kind_of kind.Lead = rule.lead
kind_of kind.Close = rule.close
kind_of kind.Done = rule.done
kind_of kind.Value = rule.value
kind_of kind.Deletion = rule.deletion
kind_of kind.Data = rule.data'
kind_of kind.Blank = rule.blank

abbrev pub kind_as : rule.Kind → Kind
kind_as rule.lead = kind.Lead
kind_as rule.close = kind.Close
kind_as rule.done = kind.Done
kind_as rule.value = kind.Value
kind_as rule.deletion = kind.Deletion
kind_as rule.data' = kind.Data
kind_as rule.blank = kind.Blank

-- the store of these bytes at that block
abbrev pub store_of : Sector → Block → Kind → List ℕ → rule.Store
store_of s b k bytes = record { sector = sector_no s; block = block_no b; kind = kind_of k; bytes = bytes }

-- what is told of a store
abbrev pub store_as : rule.Store → Store
store_as st = record { sector = sector_at st.sector; block = block_numbered st.block; kind = kind_as st.kind }

-- the last of these stores, or what was told before them
unfoldable pub last_of : Option Store → List rule.Store → Option Store
last_of told [] = told
last_of told (st ∷ ss) = last_of (Some (store_as st)) ss

-- the budget of an allowance
abbrev pub budget_of : ℕ → Budget
budget_of allowance = record { left = allowance; last = None }

-- "They make the first so many of their stores, and stop": what these stores leave of a budget
unfoldable pub spent : Budget → List rule.Store → Budget
spent budget ss = record { left = budget.left - length ss; last = last_of budget.last (take budget.left ss) }

-- the image that a writer holds
abbrev pub held : Writer → Image
held w = image_of (blocks_of w.geometry) (sectors_of w.geometry) w.image.now

-- and what its sectors show
abbrev pub shown : Writer → List View
shown w = views_of (blocks_of w.geometry) (held w)

-- A step that is due these stores did those that the budget allows, and is cut where that is not all of them. The writer goes on
-- with the same image, lent by the same reference.
pub record Did {T : Type 0} (writer : Writer) (stores : List rule.Store) (writer' : Writer) (r : Result T Cut) : Type 0 where
  pub image : writer'.image.now ≡ apply_bytes (blocks_of writer.geometry) (take writer.budget.left stores) writer.image.now
  pub left : writer'.budget ≡ spent writer.budget stores
  pub cut : is_err r ≡ ltb writer.budget.left (length stores)
  pub geometry : writer'.geometry ≡ writer.geometry
  pub same : writer'.image.ghost_name ≡ writer.image.ghost_name
