-- Demand 2: the calls do what the rules say, what is written reads back, and an image has one meaning.
use mathlib.Core.Path.{◌≡◌, sym, ap, subst, subst₂, ◌∙◌}
use mathlib.Core.Bool.{true}
use mathlib.Core.List.{List}
use mathlib.Core.Option.{Option, none, some}
use Prim.Native.Nat.{ℕ}
use lib.ListN.{length}
use borrow.Author.Tests.{ne_eqb}
use Rattle.rules.specs.Ground.{legal_sizes, reserved_id}
use Rattle.rules.specs.Meaning.{at_rest, history, lookup}
use Rattle.rules.specs.Calls as rule
use Rattle.rules.specs.Calls.{Due, Numbers, reply_numbers}
use Rattle.rules.specs.Demands as rules
use Rattle.rules.specs.Demands.{AreBytes, IsUser, IsReadBack, ReadBack, DeleteBack, MountedFrom, MountShows, due, budget, views}
use Rattle.rules.proofs.Crash.Landed.{rest-whole, rest-told}
use Rattle.rules.proofs.Crash.Reads.{settled-read}
use Rattle.rules.proofs.Crash.ReadBack.{read_back, delete-back}
use Rattle.rules.proofs.Crash.MountShows.{no_store_lem, mount-shows}
use Rattle.answer.specs.Answer.{Leaves}
use Rattle.acceptance.specs.Runs.{Made}
use Rattle.acceptance.specs.Demands.{Storing, Obeys, ReadsBack, OneMeaning, Demand2}
use Rattle.acceptance.proofs.Numbers.{same-reply}
use Rattle.acceptance.proofs.Steps.{same_number, reads_as, shown}

obeys : {size : ℕ} {due : List ℕ → Due} {run : Storing} → ((before : List ℕ) (a : ℕ) (after : List ℕ) (r : Made) → run before a after r → Leaves size (due before) a before after r)
    → Obeys size due run
obeys met = record { answers = λ x. (met _ _ _ _ x).numbers; leaves = λ x. (met _ _ _ _ x).image; traces = λ x. (met _ _ _ _ x).last }

-- read-back, from the rules' statement of it
module _ {size count : ℕ} {before after : List ℕ} {id : ℕ} {entry : Option (List ℕ)} where
  reads-back : IsReadBack size count before after id entry → ReadsBack size count before after id entry
  reads-back back =
      record {
        changed = λ x. reads_as back.changed x;
        others = λ {other} {buffer} {left} {left'} {reply} {reply'} apart x y.
            let same = back.others other (length buffer) apart in (
              same-reply reply' reply (y.meets.0 ∙ ap reply_numbers same ∙ sym x.meets.0),
              y.meets.1.0 ∙ ap (λ (found : rule.Reply). rule.buffer_after found buffer) same ∙ sym x.meets.1.0,
            );
      }

module _ (size count : ℕ) (image : List ℕ) (typed : AreBytes image) (legal : legal_sizes size count (length image) ≡ true) where
  meaning : OneMeaning size count image
  unfolding IsUser MountShows
  meaning =
      record {
        no_store = λ {a} x.
            let both = no_store_lem size count image legal a in
            ((λ e. both.0 (sym (same_number x.meets) ∙ e)), (λ none'. same_number x.meets ∙ both.1 none'));
        rests = λ {state} {a} is x zero'.
            subst₂ (λ (l : List ℕ) (n : Numbers). MountedFrom size count state image n l) (sym x.meets.image) (sym x.meets.numbers)
            (mount-shows size count image a state typed is (sym (same_number x.meets) ∙ zero'));
        newest = λ {w} {id} {buffer} rests user x.
            let q = rest-told size count image typed legal w rests in
            let found : rule.read size count image id (length buffer) ≡ rule.read_entry (length buffer) (lookup id (history (at_rest w) (views size count image))) =
            settled-read size count image legal (rest-whole size count image typed legal w rests) q id (length buffer) ∙ simp (ne_eqb id reserved_id user.1) in
            (x.meets.0 ∙ ap reply_numbers found, x.meets.1.0 ∙ ap (λ (f : rule.Reply). rule.buffer_after f buffer) found);
      }

pub demand2 : Demand2
unfolding ReadBack DeleteBack due budget
demand2 =
    record {
      formats = λ size count. obeys (λ before a after r x. x.meets);
      mounts = λ size count. obeys (λ before a after r x. x.meets);
      writes = λ size count id value. obeys (λ before a after r x. x.meets.0);
      deletes = λ size count id. obeys (λ before a after r x. x.meets);
      reads = λ size count id. record { answers = λ x. x.meets.0; fills = λ x. x.meets.1.0 };
      read_back = λ {size} {count} {id} {value} {before} {a} typed named bytes x zero'.
          reads-back (subst (λ (l : List ℕ). IsReadBack size count before l id (some value)) (sym x.meets.0.image) (read_back size count before id value a typed named bytes (sym (same_number x.meets.0) ∙ zero')));
      delete_back = λ {size} {count} {id} {before} {a} typed named x zero'.
          reads-back (subst (λ (l : List ℕ). IsReadBack size count before l id none) (sym x.meets.image) (delete-back size count before id a typed named (sym (same_number x.meets) ∙ zero')));
      meaning = meaning;
      mount_turns = λ size count. record { moves = λ {before} {a} bytes small rests x zero'. shown size count (rules.mount a) (rules.mounts small) x.meets bytes rests zero' };
      write_turns = λ size count id value named typed. record { moves = λ {before} {a} bytes small rests x zero'. shown size count (rules.write id value a) (rules.writes named typed small) x.meets.0 bytes rests zero' };
      delete_turns = λ size count id named. record { moves = λ {before} {a} bytes small rests x zero'. shown size count (rules.delete id a) (rules.deletes named small) x.meets bytes rests zero' };
    }
