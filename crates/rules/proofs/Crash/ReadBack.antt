-- Demand 2's read-back: what was written is read, what was deleted is absent, and every other ID reads as before.
use Rattle.std.specs.Prelude.{if◌then◌else◌}
use mathlib.Core.Path.{◌≡◌, refl, sym, ap, subst, ◌∙◌}
use mathlib.Core.Bool.{true}
use mathlib.Core.List.{List}
use mathlib.Core.Option.{Option}
use Prim.Native.Nat.{ℕ, ◌/◌}
use native.Mathlib.Omega.{arith}
use lib.Dec.{eqb}
use lib.ListN.{length}
use borrow.Author.Tests.{eq-eqb, ne_eqb}
use Rattle.rules.specs.Notation.{when}
use Rattle.rules.specs.Ground.{block_size, legal_sizes, image_of, reserved_id}
use Rattle.rules.specs.Reading.{Entry}
use Rattle.rules.specs.Meaning.{is_named, is_value}
use Rattle.rules.specs.Stores.{value_entry, deletion_entry}
use Rattle.rules.specs.Calls.{reserved, Reply, read_entry, leaves}
use Rattle.rules.specs.Demands.{Call, write, delete, Typed, writes, deletes, AreBytes, IsBudget, due, views, Matches, IsReadBack, ReadBack, DeleteBack}
use Rattle.rules.proofs.Terms.{IsImage}
use Rattle.rules.proofs.Crash.Mounting.{Settled}
use Rattle.rules.proofs.Crash.Changing.{updated}
use Rattle.rules.proofs.Crash.Leaving.{lookup-after}
use Rattle.rules.proofs.Crash.Reads.{settled-read, settled-reads}
use Rattle.rules.proofs.Crash.Invariant.{updated-named, updated-other, value-named, deletion-named, value-matches, deletion-matches}
use Rattle.rules.proofs.Crash.Landed.{Lands, IsLanded, write-landed, delete-landed, rest-whole, told, rest-told, call-landed}

-- The two images by what they tell: an entry that names an ID changes what is read of that ID alone.
module _ (size count : ℕ) (before after : List ℕ) {T : ℕ → Option Entry} where
  back : (e : Entry) (id : ℕ) {entry : Option (List ℕ)} → ((i : ℕ) → is_named i e.head ≡ eqb id i) → (id ≡ reserved_id → ⊥) → Matches (when (is_value e.head) e) entry
      → legal_sizes size count (length before) ≡ true → IsImage (size / block_size) count (image_of (size / block_size) count before) → Settled count T (views size count before)
      → legal_sizes size count (length after) ≡ true → IsImage (size / block_size) count (image_of (size / block_size) count after) → Settled count (updated e T) (views size count after)
      → IsReadBack size count before after id entry
  back e id {entry} names user new legal whole q legal' whole' q' =
      record {
        changed =
            settled-reads size count after legal' whole' q' id user
            (subst (λ (o : Option Entry). Matches o entry) (sym (updated-named e T id (names id ∙ eq-eqb id id refl))) new);
        others = λ other n apart.
            settled-read size count after legal' whole' q' other n
            ∙ ap (λ (o : Option Entry). if eqb other reserved_id then Reply.refused reserved else read_entry n o) (updated-other e T other (names other ∙ ne_eqb id other (λ same. apart (sym same))))
            ∙ sym (settled-read size count before legal whole q other n);
      }

module _ (size count : ℕ) (image : List ℕ) (typed : AreBytes image) where
  -- after a call that landed, with any allowance
  landed-back : (call : Call) (e : Entry) (id a : ℕ) {entry : Option (List ℕ)} → Typed call → ((T : ℕ → Option Entry) → lookup-after call T ≡ updated e T)
      → ((i : ℕ) → is_named i e.head ≡ eqb id i) → Matches (when (is_value e.head) e) entry → Lands (due size count image call) a → IsLanded size count image id
      → IsReadBack size count image (leaves size (due size count image call) a image) id entry
  landed-back call e id a ok is names new lands l =
      let left = call-landed size count image typed l.legal l.working l.rests call a ok lands in
      back size count image (leaves size (due size count image call) a image) e id names l.user new
      l.legal (rest-whole size count image typed l.legal l.working l.rests) (rest-told size count image typed l.legal l.working l.rests)
      left.sizes left.whole
      (subst (λ (T : ℕ → Option Entry). Settled count T (views size count (leaves size (due size count image call) a image))) (is (told size count image typed l.legal l.working l.rests)) left.settles.settled)

pub none_allowed : IsBudget 0
unfolding IsBudget
none_allowed = omega arith

pub read_back : ReadBack
unfolding ReadBack lookup-after due
read_back size count image id bytes a typed named filled lands =
    landed-back size count image typed (write id bytes 0) (value_entry id bytes) id a (writes named filled none_allowed) (λ T. refl) (value-named id bytes) (value-matches id bytes filled) lands
    (write-landed size count image a id bytes lands)

pub delete-back : DeleteBack
unfolding DeleteBack lookup-after due
delete-back size count image id a typed named lands =
    landed-back size count image typed (delete id 0) (deletion_entry id) id a (deletes named none_allowed) (λ T. refl) (deletion-named id) (deletion-matches id) lands
    (delete-landed size count image a id lands)
