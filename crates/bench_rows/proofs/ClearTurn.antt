-- A turn whose copies go to a clear sector, and whose collected sector has nothing that reads under its next cycle: its stores,
-- one by one, and a clear sector after it.
use mathlib.Core.Path.{◌≡◌, refl, sym, ap, ap₂, subst, ◌∙◌}
use mathlib.Core.Bool.{true, false}
use mathlib.Core.List.{List, [], ◌∷◌, ◌++◌, append-nil, append_assoc}
use Prim.Native.Nat.{ℕ, ◌-◌, ◌<◌, ◌≤◌}
use native.Mathlib.Omega.{arith}
use lib.ListN.{length, get_or}
use Rattle.rules.specs.Notation.{Each, empty}
use Rattle.rules.specs.Ground.{Block, Sector, Image, block_at}
use Rattle.rules.specs.Entry.{lead_block}
use Rattle.rules.specs.Look.{start, look, is_within, is_close, is_entry}
use Rattle.rules.specs.Reading.{Entry, View, view_of, after_all}
use Rattle.rules.specs.Meaning.{views_of, view_at, next}
use Rattle.rules.specs.Stores.{Store, Kind, Plan, apply, nothing, ◌and_then◌, append, append_all, blank_if, next_cycle, reopen, done_entry, survivors, finish_turn}
use Rattle.rules.proofs.Terms.{IsImage, IsInside, IsProper, IsAtomic, added_view, changed, reopened_view}
use Rattle.rules.proofs.Basics.Parts.{each_append}
use Rattle.rules.proofs.Crash.Cuts.{apply-append}
use Rattle.rules.proofs.Blocks.Made.{done-proper}
use Rattle.rules.proofs.Blocks.OnImage.{view-at, apply-image, store_other}
use Rattle.rules.proofs.Blocks.Reopen.{reopen-atomic}
use Rattle.rules.proofs.Ring.History.{changed-other}
use Rattle.bench_rows.proofs.Clear.{Clear, clear_stores, append-clear, clear-inside, clear-views, clear-image, clear-after, kept-other}

-- entries that fit one after the other
pub data Fits (B : ℕ) : (before entries : List Entry) → Type 0 where
  no_more : {es : List Entry} → Fits B es []
  fits : {es : List Entry} {e : Entry} {rest : List Entry} → IsProper e → is_within B (after_all start es) e.head ≡ true → Fits B (es ++ (e ∷ [])) rest → Fits B es (e ∷ rest)

-- their stores
unfoldable pub clear_all : (B cycle s : ℕ) → (before entries : List Entry) → List Store
clear_all B cycle s es [] = []
clear_all B cycle s es (e ∷ rest) = clear_stores B cycle s es e ++ clear_all B cycle s (es ++ (e ∷ [])) rest

-- What appends to a clear sector store and leave.
pub record Laid (B S cycle s : ℕ) (im : Image) (plan : Plan) (stores : List Store) (es : List Entry) : Type 0 where
  pub stored : plan im ≡ stores
  pub inside : Each (IsInside B S) stores
  pub whole : IsImage B S (apply stores im)
  pub clear : Clear B cycle s (apply stores im) es
  pub others : (t b : ℕ) → (t ≡ s → ⊥) → block_at (apply stores im) t b ≡ block_at im t b
  pub other_views : (t : ℕ) → (t ≡ s → ⊥) → view_at (views_of B (apply stores im)) t ≡ view_at (views_of B im) t

module _ (B S cycle s : ℕ) (big : 8 ≤ B) (most : B ≤ 4096) (byte : cycle < 256) (inside : s < S) where
  pub append-laid : (im : Image) (ok : IsImage B S im) (es : List Entry) (clear : Clear B cycle s im es) (e : Entry) → IsProper e
      → is_within B (after_all start es) e.head ≡ true → Laid B S cycle s im (append B s e) (clear_stores B cycle s es e) (es ++ (e ∷ []))
  append-laid im ok es clear e proper within =
      record {
        stored = append-clear B S cycle s big most byte im ok inside es clear e proper within;
        inside = clear-inside B S cycle s big most byte im ok inside es clear e proper within;
        whole = clear-image B S cycle s big most byte im ok inside es clear e proper within;
        clear = clear-after B S cycle s big most byte im ok inside es clear e proper within;
        others = kept-other B S cycle s big most byte im ok inside es clear e proper within;
        other_views = λ t other.
            ap (λ (vs : List View). view_at vs t) (clear-views B S cycle s big most byte im ok inside es clear e proper within)
            ∙ changed-other (added_view e) s (views_of B im) t other;
      }

  -- one step after another
  then-laid : {im : Image} {first second : Plan} {stores more : List Store} {es es' : List Entry}
      → Laid B S cycle s im first stores es → Laid B S cycle s (apply stores im) second more es' → Laid B S cycle s im (first and_then second) (stores ++ more) es'
  unfolding ◌and_then◌
  then-laid {im} {first} {second} {stores} {more} {es} {es'} x y =
      let all : apply (stores ++ more) im ≡ apply more (apply stores im) = apply-append stores more im in
      record {
        stored = ap₂ (λ (ss ts : List Store). ss ++ ts) x.stored (ap (λ (ss : List Store). second (apply ss im)) x.stored ∙ y.stored);
        inside = each_append x.inside y.inside;
        whole = subst (IsImage B S) (sym all) y.whole;
        clear = subst (λ (i : Image). Clear B cycle s i es') (sym all) y.clear;
        others = λ t b other. ap (λ (i : Image). block_at i t b) all ∙ y.others t b other ∙ x.others t b other;
        other_views = λ t other. ap (λ (i : Image). view_at (views_of B i) t) all ∙ y.other_views t other ∙ x.other_views t other;
      }

  pub all_laid : {es entries : List Entry} (im : Image) → IsImage B S im → Clear B cycle s im es → Fits B es entries
      → Laid B S cycle s im (append_all B s entries) (clear_all B cycle s es entries) (es ++ entries)
  unfolding append_all nothing clear_all apply
  all_laid {es} im ok clear no_more =
      record { stored = refl; inside = empty; whole = ok; clear = subst (Clear B cycle s im) (sym (append-nil es)) clear; others = λ t b other. refl; other_views = λ t other. refl }
  all_laid {es} im ok clear (fits {e = e} {rest = rest} proper within more) =
      let first = append-laid im ok es clear e proper within in
      let both = then-laid first (all_laid _ first.whole first.clear more) in
      subst (Laid B S cycle s im (append B s e and_then append_all B s rest) (clear_stores B cycle s es e ++ clear_all B cycle s (es ++ (e ∷ [])) rest)) (append_assoc es (e ∷ []) rest) both

  -- copies, and done
  pub copies-laid : {copies : List Entry} (im : Image) → IsImage B S im → Clear B cycle s im [] → Fits B [] copies → is_within B (after_all start copies) done_entry.head ≡ true
      → Laid B S cycle s im (append_all B s copies and_then append B s done_entry) (clear_all B cycle s [] copies ++ clear_stores B cycle s copies done_entry) (copies ++ (done_entry ∷ []))
  copies-laid im ok clear copied within =
      let first = all_laid im ok clear copied in
      then-laid first (append-laid _ first.whole _ first.clear done_entry done-proper within)

-- the lead of a sector that is reopened
abbrev pub lead_store : (B s cycle : ℕ) → Store
lead_store B s cycle = record { sector = s; block = B - 1; kind = Kind.lead; bytes = lead_block cycle }

-- A sector of cycle 1 with nothing that reads under cycle 2 is reopened by its lead alone.
pub record IsQuiet (B s : ℕ) (im : Image) : Type 0 where
  pub cycle : (view_at (views_of B im) s).cycle ≡ 1
  pub close : is_close 2 (block_at im s (B - 2)) ≡ false
  pub entry : is_entry (look B 2 start (block_at im s (B - 3))) ≡ false

pub reopen-quiet : (B s : ℕ) (im : Image) → s < length im → IsQuiet B s im → reopen B s im ≡ lead_store B s 2 ∷ []
unfolding reopen blank_if next_cycle
reopen-quiet B s im here q =
    let was : (view_of B (get_or im s [])).cycle ≡ 1 = ap (λ (v : View). v.cycle) (sym (view-at B im s here)) ∙ q.cycle in
    simp (was) (simp (q.close, q.entry))

-- the stores of copies and done in sector u, and of a whole turn from its first copy on, with sector o collected
abbrev pub copy_stores : (B cycle u : ℕ) → List Entry → List Store
copy_stores B cycle u copies = clear_all B cycle u [] copies ++ clear_stores B cycle u copies done_entry

abbrev pub finish_stores : (B cycle u o : ℕ) → List Entry → List Store
finish_stores B cycle u o copies = copy_stores B cycle u copies ++ (lead_store B o 2 ∷ [])

module _ (B S cycle u o : ℕ) (big : 8 ≤ B) (most : B ≤ 4096) (byte : cycle < 256) (inside : u < S) (collected : o < S) (apart : o ≡ u → ⊥) (follows : next S u ≡ o)
    {copies : List Entry} (im : Image) (ok : IsImage B S im) (clear : Clear B cycle u im []) (live : survivors B u im ≡ copies)
    (copied : Fits B [] copies) (within : is_within B (after_all start copies) done_entry.head ≡ true) (quiet : IsQuiet B o im) where
  laid : Laid B S cycle u im (append_all B u copies and_then append B u done_entry) (copy_stores B cycle u copies) (copies ++ (done_entry ∷ []))
  laid = copies-laid B S cycle u big most byte inside im ok clear copied within

  abbrev between : Image
  between = apply (copy_stores B cycle u copies) im

  still-quiet : IsQuiet B o between
  still-quiet =
      record {
        cycle = ap (λ (v : View). v.cycle) (laid.other_views o apart) ∙ quiet.cycle;
        close = ap (is_close 2) (laid.others o (B - 2) apart) ∙ quiet.close;
        entry = ap (λ (block : Block). is_entry (look B 2 start block)) (laid.others o (B - 3) apart) ∙ quiet.entry;
      }

  reopened : reopen B o between ≡ lead_store B o 2 ∷ []
  reopened = reopen-quiet B o between (omega (arith, laid.whole.sized)) still-quiet

  pub finish-stores : finish_turn B S u im ≡ finish_stores B cycle u o copies
  unfolding finish_turn ◌and_then◌
  finish-stores =
      let copying : List Store = append_all B u copies im in
      let ending : List Store = append B u done_entry (apply copying im) in
      simp (live, follows)
      (ap (λ (i : Image). copying ++ (ending ++ reopen B o i)) (sym (apply-append copying ending im))
      ∙ sym (append_assoc copying ending (reopen B o (apply (copying ++ ending) im)))
      ∙ ap (λ (ss : List Store). ss ++ reopen B o (apply ss im)) laid.stored
      ∙ ap (λ (ss : List Store). copy_stores B cycle u copies ++ ss) reopened)

  -- the image after it
  abbrev finished : Image
  finished = apply (finish_stores B cycle u o copies) im

  atomic : IsAtomic B S (reopen B o) between (changed reopened_view o (views_of B between))
  atomic = reopen-atomic big laid.whole collected

  after-lead : finished ≡ apply (reopen B o between) between
  after-lead = apply-append (copy_stores B cycle u copies) (lead_store B o 2 ∷ []) im ∙ ap (λ (ss : List Store). apply ss between) (sym reopened)

  pub finish-whole : IsImage B S (apply (finish_stores B cycle u o copies) im)
  finish-whole = subst (IsImage B S) (sym after-lead) (apply-image atomic.inside laid.whole)

  pub finish-clear : Clear B cycle u (apply (finish_stores B cycle u o copies) im) (copies ++ (done_entry ∷ []))
  unfolding apply block_at
  finish-clear =
      let apart' : u ≡ o → ⊥ = λ same. apart (sym same) in
      record {
        shows = ap (λ (i : Image). view_at (views_of B i) u) after-lead ∙ ap (λ (vs : List View). view_at vs u) atomic.whole ∙ changed-other reopened_view o (views_of B between) u apart' ∙ laid.clear.shows;
        blank = λ b from to.
            ap (λ (i : Image). get_or (get_or i u []) b []) (apply-append (copy_stores B cycle u copies) (lead_store B o 2 ∷ []) im)
            ∙ ap (λ (x : Sector). get_or x b []) (store_other between o (B - 1) (lead_block 2) u apart')
            ∙ laid.clear.blank b from to;
      }
