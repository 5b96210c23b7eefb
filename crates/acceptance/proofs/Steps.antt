-- What the rules say of a call, carried over to the runs that meet its contract.
use mathlib.Core.Path.{◌≡◌, sym, ap, subst₂, ◌∙◌}
use mathlib.Core.List.{List}
use mathlib.Core.Option.{Option, some}
use Prim.Native.Nat.{ℕ}
use Rattle.rules.specs.Meaning.{at_rest, state_of}
use Rattle.rules.specs.Stores.{moved}
use Rattle.rules.specs.Calls as rule
use Rattle.rules.specs.Calls.{Due, Numbers, answer_numbers}
use Rattle.rules.specs.Demands as rules
use Rattle.rules.specs.Demands.{Call, Typed, AreBytes, Model, due, budget, step, model_after, views, ReadsAs, TurnsShow}
use Rattle.rules.proofs.Crash.TurnsShow.{turns-show}
use Rattle.rules.proofs.Crash.Safe.{Safe, safe-call}
use Rattle.answer.specs.Answer.{Leaves, reply_numbers_of}
use Rattle.acceptance.specs.Runs.{Made, Reply, Reads}
use Rattle.acceptance.specs.Demands.{told, Completes}

-- the number that a run gave is the rules'
pub same_number : {size : ℕ} {what : Due} {a : ℕ} {before after : List ℕ} {r : Made} → Leaves size what a before after r → (told r).number ≡ (answer_numbers (rule.answer what a)).number
same_number l = ap (λ (n : Numbers). n.number) l.numbers

-- a read, by what the rules say that the image holds
pub reads_as : {size count : ℕ} {image : List ℕ} {id : ℕ} {entry : Option (List ℕ)} {buffer after : List ℕ} {reply : Reply}
    → rules.Reads size count image id entry → Reads size count image id buffer after reply → ReadsAs buffer entry (reply_numbers_of reply) after
unfolding rules.Reads
reads_as {entry = entry} {buffer} held x = subst₂ (λ (n : Numbers) (l : List ℕ). ReadsAs buffer entry n l) (sym x.meets.0) (sym x.meets.1.0) (held buffer)

-- a call that the rules do not refuse
unfoldable pub completes : {what : Due} {most : ℕ} {run : ℕ → List ℕ → Made → Type 0}
    → ((a : ℕ) (after : List ℕ) (r : Made) → run a after r → told r ≡ answer_numbers (rule.answer what a)) → rules.Succeeds what most → Completes run most
completes numbers s =
    record {
      stores = s.stores;
      turns = s.turns;
      few = s.few;
      enough = s.enough;
      whole = λ {a} {after} {r} x enough. numbers a after r x ∙ s.whole a enough;
      short = λ {a} {after} {r} x short. numbers a after r x ∙ s.short a short;
    }

module _ (size count : ℕ) (call : Call) (typed : Typed call) {before after : List ℕ} {r : Made} (l : Leaves size (due size count before call) (budget call) before after r) where
  -- the turns told show in the image
  pub shown : {w : ℕ} → AreBytes before → state_of (views size count before) ≡ some (at_rest w) → (told r).number ≡ 0
      → state_of (views size count after) ≡ some (at_rest (moved count (told r).turns w))
  unfolding TurnsShow
  shown {w} bytes rests zero' =
      subst₂ (λ (im : List ℕ) (n : Numbers). state_of (views size count im) ≡ some (at_rest (moved count n.turns w))) (sym l.image) (sym l.numbers)
      (turns-show size count before call w bytes typed rests (sym (same_number l) ∙ zero'))

  -- the invariant of the rules is kept, the book fed with the number that the run gave
  pub kept : (book : Model) → Safe size count (record { image = before; model = book }) → Safe size count (record { image = after; model = model_after call (told r).number book })
  unfolding step
  kept book safe =
      subst₂ (λ (im : List ℕ) (n : Numbers). Safe size count (record { image = im; model = model_after call n.number book })) (sym l.image) (sym l.numbers)
      (safe-call size count (record { image = before; model = book }) call typed safe)
