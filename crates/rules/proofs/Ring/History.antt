-- Laws of the histories: they go by the entries alone, and by age; and what stands of views when one of them changed.
use mathlib.Core.Path.{◌≡◌, refl, sym, ap, ◌∙◌}
use mathlib.Core.List.{List, [], ◌∷◌, ◌++◌, map, map-append, append_assoc, append-nil}
use Prim.Native.Nat.{ℕ, zero, suc, ◌<◌, ◌≤◌}
use native.Mathlib.Omega.{arith}
use lib.ListN.{length, take, drop, length-set, length-map}
use lib.Seq.{get_or-set_same, get_or-set_other, map-set_same}
use Rattle.rules.specs.Notation.{concat}
use Rattle.rules.specs.Reading.{Entry, View}
use Rattle.rules.specs.Meaning.{State, at_rest, not_reopened, mid_turn, no_view, view_at, next, all_but, ending_at, counting, entries_in, history}
use Rattle.rules.proofs.Terms.{closed_view, added_view, reopened_view, changed}
use Rattle.rules.proofs.Ring.Order.{all_but-set, ending-first, ending-last, all_but_two, ring}

pub entries_in-append : (vs ws : List View) → entries_in (vs ++ ws) ≡ entries_in vs ++ entries_in ws
unfolding entries_in
entries_in-append [] ws = refl
entries_in-append (v ∷ vs) ws = simp (entries_in-append vs ws, append_assoc)

pub entries_in-last : (vs : List View) (v : View) → entries_in (vs ++ (v ∷ [])) ≡ entries_in vs ++ v.entries
unfolding entries_in
entries_in-last vs v = simp (entries_in-append vs (v ∷ []), append-nil)

-- the entries of each view
abbrev pub entries_each : List View → List (List Entry)
entries_each views = map (λ (v : View). v.entries) views

pub entries_in-each : (vs : List View) → entries_in vs ≡ concat (entries_each vs)
unfolding entries_in concat
entries_in-each [] = refl
entries_in-each (v ∷ vs) = ap (λ (es : List Entry). v.entries ++ es) (entries_in-each vs)

module _ {ℓ κ} {A : Type ℓ} {B : Type κ} (f : A → B) where
  map-take : (n : ℕ) (xs : List A) → map f (take n xs) ≡ take n (map f xs)
  map-take zero xs = refl
  map-take (suc n) [] = refl
  map-take (suc n) (x ∷ xs) = ap (λ (r : List B). f x ∷ r) (map-take n xs)

  map-drop : (n : ℕ) (xs : List A) → map f (drop n xs) ≡ drop n (map f xs)
  map-drop zero xs = refl
  map-drop (suc n) [] = refl
  map-drop (suc n) (x ∷ xs) = map-drop n xs

  -- cut anywhere, and put together round the ring
  map-round : (m n : ℕ) (xs : List A) → map f (drop m xs ++ take n xs) ≡ drop m (map f xs) ++ take n (map f xs)
  map-round m n xs = simp (map-append f (drop m xs) (take n xs), map-drop m xs, map-take n xs)

-- Where the entries are the same, so are the histories.
module _ (vs ws : List View) (same : entries_each vs ≡ entries_each ws) where
  pub all_but-each : (u : ℕ) → entries_each (all_but u vs) ≡ entries_each (all_but u ws)
  unfolding all_but
  all_but-each u =
      simp (map-round (λ (v : View). v.entries) (suc u) u vs, map-round (λ (v : View). v.entries) (suc u) u ws, same)

  round_same : (m n : ℕ) → entries_in (drop m vs ++ take n vs) ≡ entries_in (drop m ws ++ take n ws)
  round_same m n =
      simp (entries_in-each, map-round (λ (v : View). v.entries) m n vs, map-round (λ (v : View). v.entries) m n ws, same)

  pub all_but-same : (u : ℕ) → entries_in (all_but u vs) ≡ entries_in (all_but u ws)
  unfolding all_but
  all_but-same u = round_same (suc u) u

  pub ending_at-same : (w : ℕ) → entries_in (ending_at w vs) ≡ entries_in (ending_at w ws)
  unfolding ending_at
  ending_at-same w = round_same (suc w) (suc w)

  pub history-same : (state : State) → history state vs ≡ history state ws
  unfolding history counting
  history-same (at_rest w) =
      let sized : length vs ≡ length ws = sym (length-map vs (λ (v : View). v.entries)) ∙ ap length same ∙ length-map ws (λ (v : View). v.entries) in
      all_but-same (next (length vs) w) ∙ ap (λ (n : ℕ). entries_in (all_but (next n w) ws)) sized
  history-same (not_reopened w) = ending_at-same w
  history-same (mid_turn u) = all_but-same u

-- One view changed: the others stand.
module _ (f : View → View) (u : ℕ) (views : List View) where
  pub changed-length : length (changed f u views) ≡ length views
  changed-length = length-set views u (f (view_at views u))

  pub changed-here : u < length views → view_at (changed f u views) u ≡ f (view_at views u)
  unfolding view_at
  changed-here here = get_or-set_same views u (f (view_at views u)) no_view here

  pub changed-other : (s : ℕ) → (s ≡ u → ⊥) → view_at (changed f u views) s ≡ view_at views s
  unfolding view_at
  changed-other s other = get_or-set_other views u s (f (view_at views u)) no_view other

  pub changed-all_but : all_but u (changed f u views) ≡ all_but u views
  changed-all_but = all_but-set u views (f (view_at views u))

-- A close changes no entry, and so no history.
pub closed-each : (s : ℕ) (views : List View) → entries_each (changed closed_view s views) ≡ entries_each views
unfolding view_at
closed-each s views = map-set_same (λ (v : View). v.entries) views s (closed_view (view_at views s)) no_view refl

pub history-closed : (state : State) (s : ℕ) (views : List View) → history state (changed closed_view s views) ≡ history state views
history-closed state s views = history-same (changed closed_view s views) views (closed-each s views) state

-- The histories of the three states by the oldest sector, the newest, and those between.
pub history-not_reopened : (w : ℕ) (views : List View) → w < length views
    → history (not_reopened w) views ≡ (view_at views (next (length views) w)).entries ++ history (at_rest w) views
unfolding history counting entries_in
history-not_reopened w views here = ap entries_in (ending-first w views here)

module _ (u : ℕ) (views : List View) (here : u < length views) (two : 2 ≤ length views) where
  pub history-rest : history (at_rest u) views ≡ entries_in (all_but_two u views) ++ (view_at views u).entries
  unfolding history counting
  history-rest = simp ((ring u views here two).newest, entries_in-last)

  pub history-mid_turn : history (mid_turn u) views ≡ (view_at views (next (length views) u)).entries ++ entries_in (all_but_two u views)
  unfolding history counting entries_in
  history-mid_turn = ap entries_in (ring u views here two).oldest

-- At rest the working sector is the newest: what is added to it is the newest of all.
pub history-after-add : (e : Entry) (w : ℕ) (views : List View) → w < length views → 2 ≤ length views
    → history (at_rest w) (changed (added_view e) w views) ≡ history (at_rest w) views ++ (e ∷ [])
unfolding all_but_two
history-after-add e w views here two =
    let after : List View = changed (added_view e) w views in
    let sized : length after ≡ length views = changed-length (added_view e) w views in
    simp (history-rest w after (omega arith) (omega arith), history-rest w views here two, changed-all_but (added_view e) w views, changed-here (added_view e) w views here, append_assoc)

-- A close begins a turn, and the history stands.
pub history-after-close : (w : ℕ) (views : List View) → history (mid_turn (next (length views) w)) (changed closed_view w views) ≡ history (at_rest w) views
unfolding history counting
history-after-close w views = history-closed (mid_turn (next (length views) w)) w views

-- What the unfinished sector shows, and the spare, makes no difference.
pub history-unfinished : (f : View → View) (u : ℕ) (views : List View) → history (mid_turn u) (changed f u views) ≡ history (mid_turn u) views
unfolding history counting
history-unfinished f u views = ap entries_in (changed-all_but f u views)

pub history-spare : (f : View → View) (w : ℕ) (views : List View) → history (at_rest w) (changed f (next (length views) w) views) ≡ history (at_rest w) views
unfolding history counting
history-spare f w views =
    let n : ℕ = next (length views) w in
    ap (λ (S : ℕ). entries_in (all_but (next S w) (changed f n views))) (changed-length f n views) ∙ ap entries_in (changed-all_but f n views)

-- With its done the unfinished sector is the newest.
pub history-after-done : (e : Entry) (u : ℕ) (views : List View) → u < length views
    → history (not_reopened u) (changed (added_view e) u views) ≡ history (mid_turn u) views ++ ((view_at views u).entries ++ (e ∷ []))
unfolding history counting
history-after-done e u views here =
    let f : View → View = added_view e in
    let sized : length (changed f u views) ≡ length views = changed-length f u views in
    simp (ending-last u (changed f u views) (omega arith), entries_in-last, changed-all_but f u views, changed-here f u views here)

-- Once the successor is reopened, its entries are gone.
pub history-after-reopen : (w : ℕ) (views : List View) → w < length views → 2 ≤ length views
    → history (at_rest w) (changed reopened_view (next (length views) w) views) ≡ entries_in (all_but_two w views) ++ (view_at views w).entries
history-after-reopen w views here two = history-spare reopened_view w views ∙ history-rest w views here two
