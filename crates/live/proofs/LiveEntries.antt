-- An entry of a sector of an image by the fields of its block: whether it is a value, which entry it renews, and what it needs.
-- Assumes nothing.
use mathlib.Core.Path.{◌≡◌, sym, ap, ◌∙◌}
use mathlib.Core.Bool.{true, false}
use mathlib.Core.List.{List}
use Rattle.std.specs.Prelude.{None}
use Prim.Native.Nat.{ℕ, ◌+◌, ◌<◌}
use lib.Dec.{eqb}
use lib.ListN.{length, get_or}
use borrow.Author.Tests.{eq-eqb, ne_eqb}
use Rattle.rules.specs.Ground.{reserved_id}
use Rattle.rules.specs.Entry.{id_of, length_of}
use Rattle.rules.specs.Look.{Head, value, data_blocks, need_of}
use Rattle.rules.specs.Reading.{Entry}
use Rattle.rules.specs.Meaning.{view_at, is_value}
use Rattle.rules.proofs.Basics.Notation.{by-test, refuted, both_true}
use Rattle.rules.proofs.Blocks.Lying.{head_by}
use Rattle.layout.specs.declared.Geometry.{Geometry}
use Rattle.layout.specs.Geometry.{sectors_of, Backs}
use Rattle.image.specs.Answer.{no_entry, views_in}
use Rattle.search.specs.Search.{last_named_below}
use Rattle.live.specs.Live.{live_flags_in, renewed_by}
use Rattle.image.proofs.EntryBlocks.{entry_block, entry-lies}
use Rattle.live.proofs.RenewedLaws.{live-by-renewed}

module _ (g : Geometry) (bytes : List ℕ) (backs : Backs g bytes) (s n : ℕ) (inside : s < sectors_of g)
    (here : n < length (view_at (views_in g bytes) s).entries) where
  -- ---- a value has an ID of its own, and bytes

  pub reserved-no-value : id_of (entry_block g bytes s n) ≡ reserved_id → is_value (get_or (view_at (views_in g bytes) s).entries n no_entry).head ≡ false
  reserved-no-value reserved = refuted _ (λ v. ((entry-lies g bytes backs s n inside here).valued.0 v).0 reserved)

  pub empty-no-value : length_of (entry_block g bytes s n) ≡ 0 → is_value (get_or (view_at (views_in g bytes) s).entries n no_entry).head ≡ false
  empty-no-value nothing = refuted _ (λ v. ((entry-lies g bytes backs s n inside here).valued.0 v).1 nothing)

  pub filled-value : (id_of (entry_block g bytes s n) ≡ reserved_id → ⊥) → (length_of (entry_block g bytes s n) ≡ 0 → ⊥)
      → is_value (get_or (view_at (views_in g bytes) s).entries n no_entry).head ≡ true
  filled-value user filled = (entry-lies g bytes backs s n inside here).valued.1 (user, filled)

  -- ---- a value or a deletion renews the last entry of its ID, and a done none

  module _ (count : ℕ) (es : List Entry) where
    renewed-by-fields : renewed_by (get_or (view_at (views_in g bytes) s).entries n no_entry).head count es
        ≡ renewed_by (head_by (id_of (entry_block g bytes s n)) (length_of (entry_block g bytes s n))) count es
    renewed-by-fields = ap (λ (h : Head). renewed_by h count es) (entry-lies g bytes backs s n inside here).head

    pub reserved-renews : id_of (entry_block g bytes s n) ≡ reserved_id → renewed_by (get_or (view_at (views_in g bytes) s).entries n no_entry).head count es ≡ None
    unfolding renewed_by head_by
    reserved-renews reserved = renewed-by-fields ∙ rw (eq-eqb _ reserved_id reserved)

    pub user-renews : (id_of (entry_block g bytes s n) ≡ reserved_id → ⊥)
        → renewed_by (get_or (view_at (views_in g bytes) s).entries n no_entry).head count es ≡ last_named_below (id_of (entry_block g bytes s n)) count es
    unfolding renewed_by head_by
    user-renews user =
        renewed-by-fields ∙ rw (ne_eqb _ reserved_id user)
        (by-test (eqb (length_of (entry_block g bytes s n)) 0) (λ t. rw t) (λ f. rw f))

  -- ---- a live value needs a block and its data blocks

  value-head : (id_of (entry_block g bytes s n) ≡ reserved_id → ⊥) → (length_of (entry_block g bytes s n) ≡ 0 → ⊥)
      → (get_or (view_at (views_in g bytes) s).entries n no_entry).head ≡ value (id_of (entry_block g bytes s n)) (length_of (entry_block g bytes s n))
  unfolding head_by
  value-head user filled = (entry-lies g bytes backs s n inside here).head ∙ rw (ne_eqb _ reserved_id user, ne_eqb _ 0 filled)

  pub live-need : (u : ℕ) → get_or (live_flags_in u s (views_in g bytes)) n false ≡ true
      → need_of (get_or (view_at (views_in g bytes) s).entries n no_entry).head ≡ 1 + data_blocks (length_of (entry_block g bytes s n))
  unfolding need_of
  live-need u live =
      let told = sym (live-by-renewed u s (views_in g bytes) n here) ∙ live in
      let valued = (entry-lies g bytes backs s n inside here).valued.0 (both_true _ _ told).0 in
      ap need_of (value-head valued.0 valued.1)
