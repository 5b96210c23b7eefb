-- Demand 1: each call has one outcome, and a refusal leaves the image and the buffer.
use mathlib.Core.Path.{◌≡◌, refl, sym, ap, subst, ◌∙◌}
use mathlib.Core.List.{List, []}
use Prim.Native.Nat.{ℕ, ◌/◌}
use native.Mathlib.Omega.{arith}
use lib.Dec.{leb}
use lib.ListN.{length, take}
use borrow.Author.Tests.{leb-true, leb-false}
use Rattle.rules.specs.Ground.{block_size}
use Rattle.rules.specs.Stores.{Store, apply_bytes}
use Rattle.rules.specs.Calls as rule
use Rattle.rules.specs.Calls.{Due, refuse, make, answer_numbers, reply_numbers}
use Rattle.rules.specs.Demands as rules
use Rattle.rules.specs.Demands.{AreBytes, Call, Typed, due, FewDiffer, gives}
use Rattle.rules.proofs.Basics.Notation.{by-test}
use Rattle.rules.proofs.Due.Calls.{answer-whole, answer-cut, made-make}
use Rattle.rules.proofs.Crash.ReadBack.{none_allowed}
use Rattle.rules.proofs.Crash.Pinned.{number-leaves, number-buffer, format-few, call-few}
use Rattle.answer.specs.Answer.{Leaves, reply_numbers_of}
use Rattle.acceptance.specs.Runs.{Made, Address}
use Rattle.acceptance.specs.Demands.{told, Storing, IsCut, Pinned, PinnedRead, Demand1}
use Rattle.acceptance.proofs.Numbers.{refusal-most, same-made, same-reply, some-made, some-reply}
use Rattle.acceptance.proofs.Steps.{same_number}

-- an answer 11 is a cut, and the other way round
cut-is : (what : Due) (a : ℕ) → (answer_numbers (rule.answer what a)).number ≡ 11 → IsCut what a
unfolding rule.answer answer_numbers
cut-is (refuse r) a e = absurd (omega (arith, refusal-most r))
cut-is (make stores turns) a e =
    by-test (leb (length stores) a)
    (λ enough. let whole : ◌≡◌ {A = ℕ} 0 11 = sym (ap (λ (x : rule.Answer). (answer_numbers x).number) (answer-whole stores turns a (leb-true (length stores) a enough))) ∙ e in absurd (omega arith))
    (λ short. record { stores = stores; turns = turns; due = refl; short = leb-false (length stores) a short })

is_cut : {what : Due} (a : ℕ) (c : IsCut what a) → answer_numbers (rule.answer what a) ≡ gives 11 a 0 0
unfolding answer_numbers gives
is_cut a c = ap (λ (d : Due). answer_numbers (rule.answer d a)) c.due ∙ ap answer_numbers (answer-cut c.stores c.turns a c.short)

cut-leaves : (size : ℕ) {what : Due} (a : ℕ) (before : List ℕ) (c : IsCut what a) → rule.leaves size what a before ≡ apply_bytes (size / block_size) (take a c.stores) before
unfolding rule.leaves
cut-leaves size a before c = ap (λ (d : Due). apply_bytes (size / block_size) (rule.made d a) before) c.due ∙ ap (λ (ss : List Store). apply_bytes (size / block_size) ss before) (made-make c.stores c.turns a)

-- the answer that a contract asks for
leaves-some : (size : ℕ) (what : Due) (a : ℕ) (before : List ℕ) → (r : Made) × Leaves size what a before (rule.leaves size what a before) r
leaves-some size what a before =
    let (r, e, last) = some-made what a in
    (r, record { numbers = e; image = refl; last = last })

module _ {size : ℕ} {due : List ℕ → Due} {run : Storing}
    (met : (before : List ℕ) (a : ℕ) (after : List ℕ) (r : Made) → run before a after r → Leaves size (due before) a before after r)
    (meets : (before : List ℕ) (a : ℕ) (after : List ℕ) (r : Made) → Leaves size (due before) a before after r → run before a after r) where
  alike : (before : List ℕ) (a : ℕ) (after after' : List ℕ) (r r' : Made) → Leaves size (due before) a before after r → Leaves size (due before) a before after' r' → (r ≡ r') × (after ≡ after')
  alike before a after after' r r' x y =
      (same-made r r' (x.numbers ∙ sym y.numbers) (x.last ∙ sym y.last), x.image ∙ sym y.image)

  pinned : Pinned size due run
  unfolding gives rule.leaves
  pinned =
      record {
        answered = λ before a. let (r, l) = leaves-some size (due before) a before in (rule.leaves size (due before) a before, r, meets before a _ r l);
        alike = λ x y. alike _ _ _ _ _ _ (met _ _ _ _ x) (met _ _ _ _ y);
        refused = λ {before} {a} {after} {r} x from to.
            let l = met before a after r x in
            let same : (told r).number ≡ (answer_numbers (rule.answer (due before) a)).number = same_number l in
            l.image ∙ number-leaves size (due before) a before (λ e. omega arith) (λ e. omega arith);
        cut = λ {before} {a} {after} {r} x.
            let same : (told r).number ≡ (answer_numbers (rule.answer (due before) a)).number = same_number (met before a after r x) in
            ((λ e. cut-is (due before) a (sym same ∙ e)), (λ c. same ∙ ap (λ (n : rule.Numbers). n.number) (is_cut a c)));
        cut_after = λ {before} {a} {after} {r} x c. let l = met before a after r x in (l.numbers ∙ is_cut a c, l.image ∙ cut-leaves size a before c);
      }

-- a run changes few blocks, as the rules say
runs-few : (size count : ℕ) (call : Call) → Typed call → {a : ℕ} {before after : List ℕ} {r : Made} → Leaves size (due size count before call) a before after r → AreBytes before → FewDiffer a before after
runs-few size count call typed {a} {before} l bytes = subst (FewDiffer a before) (sym l.image) (call-few size count before call a bytes typed)

-- any address will do
somewhere : Address
somewhere = record { ptr = (0, 0); name = 0 }

pinned-read : (size count id : ℕ) → PinnedRead size count id
pinned-read size count id =
    record {
      answered = λ image buffer.
          let found = rule.read size count image id (length buffer) in
          let (x, e) = some-reply found in
          (rule.buffer_after found buffer, x, record { lifetimes = ([], ([], tt)); source = somewhere; target = somewhere; image_after = image; meets = (e, (refl, refl)) });
      alike = λ {image} {buffer} {after} {after'} {reply} {reply'} x y.
          (same-reply reply reply' (x.meets.0 ∙ sym y.meets.0), x.meets.1.0 ∙ sym y.meets.1.0);
      refused = λ {image} {buffer} {after} {reply} x from.
          let found = rule.read size count image id (length buffer) in
          let same : (reply_numbers_of reply).number ≡ (reply_numbers found).number = ap (λ (n : rule.Numbers). n.number) x.meets.0 in
          x.meets.1.0 ∙ number-buffer found buffer (λ e. omega arith);
      untouched = λ x. x.meets.1.1;
    }

-- a run meets its call's contract, and what meets it is a run
pub demand1 : Demand1
unfolding due
demand1 =
    record {
      asks = record {
        formats = λ lifetimes image size count a. tt;
        mounts = λ lifetimes image size count a. tt;
        reads = λ lifetimes image size count id buffer. tt;
        writes = λ lifetimes image size count id value a. tt;
        deletes = λ lifetimes image size count id a. tt;
      };
      formats = λ size count. pinned (λ before a after r x. x.meets) (λ before a after r l. record { lifetimes = ([], tt); image = somewhere; meets = l });
      mounts = λ size count. pinned (λ before a after r x. x.meets) (λ before a after r l. record { lifetimes = ([], tt); image = somewhere; meets = l });
      writes = λ size count id value. pinned (λ before a after r x. x.meets.0) (λ before a after r l. record { lifetimes = ([], ([], tt)); image = somewhere; source = somewhere; value_after = value; meets = (l, refl) });
      deletes = λ size count id. pinned (λ before a after r x. x.meets) (λ before a after r l. record { lifetimes = ([], tt); image = somewhere; meets = l });
      reads = pinned-read;
      value_untouched = λ x. x.meets.1;
      format_few = λ size count. record { few = λ {before} {a} bytes x. subst (FewDiffer a before) (sym x.meets.image) (format-few size count before a) };
      mount_few = λ size count. record { few = λ bytes x. runs-few size count (rules.mount 0) (rules.mounts none_allowed) x.meets bytes };
      write_few = λ size count id value named typed. record { few = λ bytes x. runs-few size count (rules.write id value 0) (rules.writes named typed none_allowed) x.meets.0 bytes };
      delete_few = λ size count id named. record { few = λ bytes x. runs-few size count (rules.delete id 0) (rules.deletes named none_allowed) x.meets bytes };
    }
