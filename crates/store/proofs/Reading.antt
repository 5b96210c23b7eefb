-- What a read answers, by its checks in order, and what is left of the rule at rest.
-- Assumes nothing.
use mathlib.Core.Path.{◌≡◌, sym, ap, ◌∙◌}
use mathlib.Core.List.{List}
use mathlib.Core.Option.{some}
use Prim.Native.Nat.{ℕ}
use Rattle.std.specs.Prelude.{Some, None, Result, Err}
use lib.ListN.{length}
use borrow.Author.Tests.{eq-eqb, ne_eqb}
use Rattle.rules.specs.Ground.{reserved_id, image_of}
use Rattle.rules.specs.Meaning.{at_rest, state_of, history, lookup}
use Rattle.rules.specs.Calls as rule
use Rattle.rules.specs.Calls.{read_entry, buffer_after, reply_numbers}
use Rattle.layout.specs.declared.Geometry.{Geometry}
use Rattle.layout.specs.Geometry.{blocks_of, sectors_of, sizes_in, sizes_of}
use Rattle.layout.specs.Options.{option_as}
use Rattle.image.specs.Answer.{views_in}
use Rattle.answer.specs.declared.Refusal.{Refusal}
use Rattle.answer.specs.Answer.{refusal_of, reply_numbers_of}
use Rattle.at_rest.proofs.Changing.{in_rest_lem}
use Rattle.store.specs.State.{open_as}
use Rattle.store.proofs.Sizes.{at-illegal, at-legal, not-in-rest}

-- a refused read, as it is told, and the buffer
pub read-refused : {due : rule.Reply} (buffer : List ℕ) {r : Result ℕ Refusal} {e : Refusal} → r ≡ Err e → due ≡ rule.refused (refusal_of e)
    → (reply_numbers_of r ≡ reply_numbers due) × (buffer ≡ buffer_after due buffer)
unfolding buffer_after
read-refused buffer is same =
    (ap reply_numbers_of is ∙ ap reply_numbers (sym same), ap (λ (x : rule.Reply). buffer_after x buffer) (sym same))

module _ (size count : ℕ) (bytes : List ℕ) (id room : ℕ) where
  pub read-illegal : None ≡ sizes_of size count (length bytes) → rule.read size count bytes id room ≡ rule.refused rule.geometry
  unfolding rule.read
  read-illegal e = at-illegal size count bytes rule.refused (λ B S im. rule.read_on B S im id room) e

  module _ (g : Geometry) (legal : Some (sizes_in g) ≡ sizes_of size count (length bytes)) where
    read-legal : rule.read size count bytes id room ≡ rule.read_on (blocks_of g) (sectors_of g) (image_of (blocks_of g) (sectors_of g) bytes) id room
    unfolding rule.read
    read-legal = at-legal size count bytes rule.refused (λ B S im. rule.read_on B S im id room) g legal

    pub read-reserved : id ≡ reserved_id → rule.read size count bytes id room ≡ rule.refused rule.reserved
    unfolding rule.read_on
    read-reserved same = read-legal ∙ rw (eq-eqb id reserved_id same)

    module _ (other : id ≡ reserved_id → ⊥) where
      abbrev looked_up : ℕ → rule.Reply
      looked_up w = read_entry room (lookup id (history (at_rest w) (views_in g bytes)))

      read-user : rule.read size count bytes id room ≡ rule.in_rest (state_of (views_in g bytes)) rule.refused looked_up
      unfolding rule.read_on
      read-user = read-legal ∙ rw (ne_eqb id reserved_id other)

      pub read-rest : {w : ℕ} → state_of (views_in g bytes) ≡ some (at_rest w)
          → rule.read size count bytes id room ≡ read_entry room (lookup id (history (at_rest w) (views_in g bytes)))
      read-rest e = read-user ∙ in_rest_lem rule.refused looked_up e

      pub read-unready : {r : Refusal} → open_as (option_as (state_of (views_in g bytes))) ≡ Err r
          → rule.read size count bytes id room ≡ rule.refused (refusal_of r)
      read-unready e = read-user ∙ not-in-rest rule.refused looked_up (state_of (views_in g bytes)) e
