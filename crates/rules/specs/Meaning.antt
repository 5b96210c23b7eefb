-- "What an image means": classes, states, age, and what is told of an ID. All of it goes by what the sectors show.
use Rattle.std.specs.Prelude.{◌≡◌, Bool, true, false, not, ◌&&◌, List, [], ◌∷◌, ◌++◌, map, reverse, ℕ, suc, ◌+◌, ◌-◌, ◌<◌, eqb, ltb, length, get_or, take, drop, if◌then◌else◌}
use Rattle.std.proofs.Math.Option.{Option, none, some}
use Rattle.rules.specs.Notation.{when, any, all, select, places_from, concat, is_empty, number_of}
use Rattle.rules.specs.Ground.{Image}
use Rattle.rules.specs.Checksum.{crc32}
use Rattle.rules.specs.Look.{Head, done, deletion, value, need_of, is_done}
use Rattle.rules.specs.Reading.{Entry, View, view_of, is_long}

-- what each sector of an image shows
unfoldable pub views_of : (B : ℕ) → Image → List View
views_of B im = map (view_of B) im

-- "A sector is closed (close present), working (not closed, done present) or unfinished (neither)."
unfoldable pub has_done : View → Bool
has_done view = any (λ (e : Entry). is_done e.head) view.entries

unfoldable pub is_working : View → Bool
is_working view = not view.closed && has_done view

unfoldable pub is_unfinished : View → Bool
is_unfinished view = not view.closed && not (has_done view)

-- "in a ring: after S-1 comes 0"
unfoldable pub next : (S s : ℕ) → ℕ
next S s = if eqb (suc s) S then 0 else suc s

-- the same the other way: before 0 comes S-1
unfoldable pub previous : (S s : ℕ) → ℕ
previous S s = if eqb s 0 then S - 1 else s - 1

-- the sector at place k after u, round the ring: place 0 is the one right after it
unfoldable pub ring_sector : (S u k : ℕ) → ℕ
ring_sector S u k = if ltb (u + 1 + k) S then u + 1 + k else u + 1 + k - S

-- The three states: rest and done-not-reopened by the working sector, mid-turn by the unfinished one.
pub data State : Type 0 where
  at_rest : (working : ℕ) → State
  not_reopened : (working : ℕ) → State
  mid_turn : (unfinished : ℕ) → State

-- what a sector outside the image would show
unfoldable pub no_view : View
no_view = record { led = false; cycle = 0; closed = false; entries = [] }

unfoldable pub view_at : List View → ℕ → View
view_at views s = get_or views s no_view

-- Rest: "one working, its successor unfinished with no entries, all others closed". Done, not reopened: "one working, all
-- others closed". Mid-turn: "none working, one unfinished, all others closed". Each sector has one class, so the lists of
-- the working and of the unfinished ones decide.
unfoldable pub state_by : List View → (working unfinished : List ℕ) → Option State
state_by views [] [] = none
state_by views [] (u ∷ []) = some (mid_turn u)
state_by views [] (u ∷ u' ∷ us) = none
state_by views (w ∷ []) [] = some (not_reopened w)
state_by views (w ∷ []) (u ∷ []) = when (eqb u (next (length views) w) && is_empty (view_at views u).entries) (at_rest w)
state_by views (w ∷ []) (u ∷ u' ∷ us) = none
state_by views (w ∷ w' ∷ ws) us = none

-- "An image is a store if all leads are right and one of these holds"
unfoldable pub state_of : List View → Option State
state_of views =
    if all (λ (v : View). v.led) views
    then state_by views (places_from 0 is_working views) (places_from 0 is_unfinished views)
    else none

-- The three states once more, as predicates in the paper's words.
pub record IsRest (views : List View) (w : ℕ) : Type 0 where
  pub led : (s : ℕ) → s < length views → (view_at views s).led ≡ true
  pub here : w < length views
  pub working : is_working (view_at views w) ≡ true
  pub spare : is_unfinished (view_at views (next (length views) w)) ≡ true
  pub unused : (view_at views (next (length views) w)).entries ≡ []
  pub others : (s : ℕ) → s < length views → (s ≡ w → ⊥) → (s ≡ next (length views) w → ⊥) → (view_at views s).closed ≡ true

pub record IsNotReopened (views : List View) (w : ℕ) : Type 0 where
  pub led : (s : ℕ) → s < length views → (view_at views s).led ≡ true
  pub here : w < length views
  pub working : is_working (view_at views w) ≡ true
  pub others : (s : ℕ) → s < length views → (s ≡ w → ⊥) → (view_at views s).closed ≡ true

pub record IsMidTurn (views : List View) (u : ℕ) : Type 0 where
  pub led : (s : ℕ) → s < length views → (view_at views s).led ≡ true
  pub here : u < length views
  pub unfinished : is_unfinished (view_at views u) ≡ true
  pub others : (s : ℕ) → s < length views → (s ≡ u → ⊥) → (view_at views s).closed ≡ true

unfoldable pub Is : List View → State → Type 0
Is views (at_rest w) = IsRest views w
Is views (not_reopened w) = IsNotReopened views w
Is views (mid_turn u) = IsMidTurn views u

-- all sectors but one, or all of them, oldest first: those after it, then round the ring up to it
unfoldable pub all_but {ℓ} : {A : Type ℓ} → ℕ → List A → List A
all_but u xs = drop (suc u) xs ++ take u xs

unfoldable pub ending_at {ℓ} : {A : Type ℓ} → ℕ → List A → List A
ending_at w xs = drop (suc w) xs ++ take (suc w) xs

-- "Age runs back round the ring: newest is the working sector (mid-turn: the closed one before the unfinished). The
-- unfinished sector is ignored." The sectors that count, oldest first.
unfoldable pub counting : State → List View → List View
counting (at_rest w) views = all_but (next (length views) w) views
counting (not_reopened w) views = ending_at w views
counting (mid_turn u) views = all_but u views

-- their entries, oldest first
unfoldable pub entries_in : List View → List Entry
entries_in [] = []
entries_in (v ∷ vs) = v.entries ++ entries_in vs

unfoldable pub history : State → List View → List Entry
history state views = entries_in (counting state views)

unfoldable pub is_named : (id : ℕ) → Head → Bool
is_named id done = false
is_named id (deletion i) = eqb i id
is_named id (value i len) = eqb i id

unfoldable pub is_value : Head → Bool
is_value done = false
is_value (deletion i) = false
is_value (value i len) = true

-- the entries of an ID, newest first
unfoldable pub changes_of : (id : ℕ) → List Entry → List Entry
changes_of id entries = select (λ (e : Entry). is_named id e.head) (reverse entries)

-- "The newest entry of an ID tells: value, or absent." The lookup of an ID gives its present value, or nothing.
unfoldable pub newest_value : List Entry → Option Entry
newest_value [] = none
newest_value (newest ∷ older) = when (is_value newest.head) newest

unfoldable pub lookup : (id : ℕ) → List Entry → Option Entry
lookup id entries = newest_value (changes_of id entries)

-- the bytes of a value, and whether its CRC-32, if it has one, is right
unfoldable pub length_in : Head → ℕ
length_in done = 0
length_in (deletion i) = 0
length_in (value i len) = len

unfoldable pub value_of : Entry → List ℕ
value_of e = take (length_in e.head) (if is_long e.head then concat e.blocks else e.inline)

unfoldable pub is_sound : Entry → Bool
is_sound e = if is_long e.head then eqb (number_of e.inline) (crc32 (value_of e)) else true

-- has one of these entries the same ID?
unfoldable pub is_renewed : Head → List Entry → Bool
is_renewed done later = false
is_renewed (deletion i) later = any (λ (e : Entry). is_named i e.head) later
is_renewed (value i len) later = any (λ (e : Entry). is_named i e.head) later

-- "A value is live if it is its ID's newest entry." The live values among some entries, with all that are later.
unfoldable pub live_among : List Entry → (later : List Entry) → List Entry
live_among [] later = []
live_among (e ∷ es) later =
    if is_value e.head && not (is_renewed e.head (es ++ later)) then e ∷ live_among es later else live_among es later

-- the live values of each of the sectors that count, oldest first
unfoldable pub live_each : List View → List (List Entry)
live_each [] = []
live_each (v ∷ vs) = live_among v.entries (entries_in vs) ∷ live_each vs

-- needs of entries
unfoldable pub needs_of : List Entry → ℕ
needs_of [] = 0
needs_of (e ∷ es) = need_of e.head + needs_of es

-- The same by a sector's number, u being the spare: the sectors newer than s are those after it round the ring, up to u.
unfoldable pub newer_than : (u s : ℕ) → List View → List View
newer_than u s views = if ltb u s then drop (suc s) views ++ take u views else drop (suc s) (take u views)

unfoldable pub live_in : (u s : ℕ) → List View → List Entry
live_in u s views = live_among (view_at views s).entries (entries_in (newer_than u s views))
