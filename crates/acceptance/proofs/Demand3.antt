-- Demand 3: after any list of calls the image tells what the book says.
use mathlib.Core.Path.{◌≡◌, refl, sym, ap, subst, subst₂, ◌∙◌}
use mathlib.Core.List.{List, [], ◌∷◌}
use mathlib.Core.Bool.{true}
use Prim.Native.Nat.{ℕ}
use native.Mathlib.Omega.{arith}
use lib.ListN.{length}
use Rattle.rules.specs.Notation.{Each, empty, each}
use Rattle.rules.specs.Ground.{legal_sizes}
use Rattle.rules.specs.Calls as rule
use Rattle.rules.specs.Demands as rules
use Rattle.rules.specs.Demands.{Call, Typed, AreBytes, Model, empty_model, model_after, due, budget}
use Rattle.rules.proofs.Crash.Fresh.{format-succeeds}
use Rattle.rules.proofs.Crash.Safe.{Safe, safe-format, safe-store, safe-mounts}
use Rattle.acceptance.specs.Runs.{Made, Formats}
use Rattle.acceptance.specs.Demands.{told, Fresh, formatted, Runs, mounted, written, deleted, Ran, ended, called, Completes, Serves, Holds, Demand3, Histories}
use Rattle.acceptance.proofs.Numbers.{no_room_lem}
use Rattle.acceptance.proofs.Demand1.{demand1}
use Rattle.acceptance.proofs.Steps.{same_number, reads_as, completes, kept}

-- a format begins the invariant of the rules
fresh-safe : {size count : ℕ} {fresh : List ℕ} → Fresh size count fresh → Safe size count (record { image = fresh; model = empty_model })
fresh-safe {size} {count} (formatted {bytes} {a} typed x zero') =
    subst (λ (l : List ℕ). Safe size count (record { image = l; model = empty_model })) (sym x.meets.image) (safe-format size count bytes a typed (sym (same_number x.meets) ∙ zero'))

-- a call keeps it
call-safe : {size count : ℕ} {call : Call} {before after : List ℕ} {r : Made} (book : Model) → Typed call → Runs size count call before after r
    → Safe size count (record { image = before; model = book }) → Safe size count (record { image = after; model = model_after call (told r).number book })
unfolding due budget
call-safe {size} {count} {call} book typed (mounted x) h = kept size count call typed x.meets book h
call-safe {size} {count} {call} book typed (written x) h = kept size count call typed x.meets.0 book h
call-safe {size} {count} {call} book typed (deleted x) h = kept size count call typed x.meets book h

-- and so does a list
list-safe : {size count : ℕ} {calls : List Call} {before after : List ℕ} {book book_after : Model} → Each Typed calls → Ran size count calls before book after book_after
    → Safe size count (record { image = before; model = book }) → Safe size count (record { image = after; model = book_after })
list-safe empty ended h = h
list-safe (each typed rest) (called {book = book} x ran) h = list-safe rest ran (call-safe book typed x h)

-- what the rules say of an image at rest, of the runs on it
serves : {size count : ℕ} {image : List ℕ} {book : Model} → rules.AtRest size count image book → Serves size count image book
unfolding rules.gives
serves at =
    record {
      working = at.working;
      rests = at.is;
      tells = at.matches;
      reads = λ {id} user x. reads_as (at.reads id user) x;
      refuses = λ {id} {value} {a} {after} {r} fits x.
          let same = x.meets.0.numbers in
          ((λ e. (at.refuses id value a fits).0 (sym same ∙ no_room_lem r e)), (λ full. same_number x.meets.0 ∙ ap (λ (n : rule.Numbers). n.number) ((at.refuses id value a fits).1 full)));
      writes = λ id value fits room. completes (λ a after r x. x.meets.0.numbers) (at.writes id value fits room);
      deletes = λ id {value} user holds. completes (λ a after r x. x.meets.numbers) (at.deletes id value user holds);
    }

-- what the invariant promises, of the runs
holds : {size count : ℕ} {image : List ℕ} {book : Model} → Safe size count (record { image = image; model = book }) → Holds size count image book
unfolding completes
holds {size} {count} {image} {book} safe =
    record {
      store = safe-store size count now safe;
      mounts = completes (λ a after r x. x.meets.numbers) mounts.succeeds;
      serves = λ {a} x enough. serves (subst (λ (l : List ℕ). rules.AtRest size count l book) (sym x.meets.image) (mounts.rests a enough));
    }
  where
    now : rules.Run
    now = record { image = image; model = book }

    mounts : rules.Mounts size count image book
    mounts = safe-mounts size count now safe

pub demand3 : Demand3
unfolding Demand3
demand3 size count calls fresh image book typed begun ran = holds (list-safe typed ran (fresh-safe begun))

-- ---- the lists that there are

module _ (size count : ℕ) where
  -- each call is answered, and in one way
  call-answered : (call : Call) (before : List ℕ) → (after : List ℕ) × (r : Made) × Runs size count call before after r
  call-answered (rules.mount a) before = let (after, r, x) = (demand1.mounts size count).answered before a in (after, r, mounted x)
  call-answered (rules.write id value a) before = let (after, r, x) = (demand1.writes size count id value).answered before a in (after, r, written x)
  call-answered (rules.delete id a) before = let (after, r, x) = (demand1.deletes size count id).answered before a in (after, r, deleted x)

  call-alike : {call : Call} {before after after' : List ℕ} {r r' : Made} → Runs size count call before after r → Runs size count call before after' r' → (r ≡ r') × (after ≡ after')
  call-alike (mounted x) (mounted y) = (demand1.mounts size count).alike x y
  call-alike (written {id} {value} x) (written y) = (demand1.writes size count id value).alike x y
  call-alike (deleted {id} x) (deleted y) = (demand1.deletes size count id).alike x y

  runs : (calls : List Call) (before : List ℕ) (book : Model) → (after : List ℕ) × (book_after : Model) × Ran size count calls before book after book_after
  runs [] before book = (before, book, ended)
  runs (call ∷ rest) before book =
      let (between, r, x) = call-answered call before in
      let (after, book_after, ran) = runs rest between (model_after call (told r).number book) in
      (after, book_after, called x ran)

  list-alike : {calls : List Call} {before : List ℕ} {book : Model} {after after' : List ℕ} {book_after book_after' : Model}
      → Ran size count calls before book after book_after → Ran size count calls before book after' book_after' → (after ≡ after') × (book_after ≡ book_after')
  list-alike ended ended = (refl, refl)
  list-alike {book = book} {after = after} {book_after = book_after} (called {call = call} {rest = rest} x ran) (called y ran') =
      let (same, left) = call-alike x y in
      list-alike (subst₂ (λ (l : List ℕ) (r : Made). Ran size count rest l (model_after call (told r).number book) after book_after) left same ran) ran'

-- a format of bytes of legal sizes, with allowance enough
format-completes : (size count : ℕ) (bytes : List ℕ) → legal_sizes size count (length bytes) ≡ true → Completes (Formats size count bytes) 0
format-completes size count bytes legal = completes (λ a after r x. x.meets.numbers) (format-succeeds size count bytes legal)

some-fresh : (size count : ℕ) (bytes : List ℕ) → AreBytes bytes → legal_sizes size count (length bytes) ≡ true → (image : List ℕ) × Fresh size count image
unfolding rules.gives
some-fresh size count bytes typed legal =
    let whole : Completes (Formats size count bytes) 0 = format-completes size count bytes legal in
    let (image, r, x) = (demand1.formats size count).answered bytes whole.stores in
    (image, formatted typed x (ap (λ (n : rule.Numbers). n.number) (whole.whole x (omega arith))))

pub histories : (size count : ℕ) → Histories size count
histories size count =
    record { begins = format-completes size count; fresh = some-fresh size count; runs = runs size count; alike = λ x y. list-alike size count x y }
