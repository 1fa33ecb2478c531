-- What a raise sends, as one who reads it has it, and the times of raises.
use Rattle.std.proofs.Common.{◌≡◌, ℕ, ℤ, ◌≤ℤ◌, Bool, true, false, cond, List, [], ◌∷◌, ◌++◌, Option, Some, None, refl, sym, ap, ◌∙◌, arith}
use Rattle.std.specs.List.{AllByRecursion, filter_map, flat_map}
use Rattle.std.proofs.lemmas.Int.{ints}
use Rattle.std.proofs.lemmas.List.{append_assoc, append-nil}
use Rattle.std.proofs.lemmas.List.Elements.{filter_map-append}
use Rattle.fs_path.specs.declared.name.DocName.{DocName}
use Rattle.fs_query.specs.declared.listen.ListenMessage.{ListenMessage}
use Rattle.fs_query.specs.declared.listen.ListenMessage.TheVariants as message
use Rattle.fs_value.specs.declared.document.Document.{Document}
use Rattle.fs_token.specs.Token.{token_of}
use Rattle.fs_listen.specs.Gathered.{NeverFalls, ended_at, gathered, raise_in}
use Rattle.fs_listen.specs.Listening.{Listening}
use Rattle.fs_listen.specs.Sent.{current_from, new_targets, sent}
use Rattle.fs_listen.specs.Told.{Views, gone_from, is_differing, having, leaving, names_of, shown_in, told, told_of}
use Rattle.fs_listen.proofs.Telling.{gathered-append}

-- ---- the end of messages

pub ended_with : (ms : List ListenMessage) (m : ListenMessage) → ended_at (ms ++ m ∷ []) ≡ raise_in m
ended_with [] m = refl
ended_with (n ∷ []) m = refl
ended_with (n ∷ k ∷ ms) m = ended_with (k ∷ ms) m

abbrev pub times : List ListenMessage → List ℤ
times ms = filter_map raise_in ms

-- a message that is no raise's adds no time
pub times_with : (ms : List ListenMessage) (m : ListenMessage) → times (m ∷ []) ≡ [] → times (ms ++ m ∷ []) ≡ times ms
times_with ms m none = filter_map-append raise_in ms (m ∷ []) ∙ ap (λ ts. times ms ++ ts) none ∙ append-nil (times ms)

-- ---- what is told of names

no_times : (stands : Bool) (time : ℤ) (name : DocName) (shown : Option Document) (vs : List Views) → times (told_of stands time name shown vs) ≡ []
no_times stands time name (Some d) vs = by_test (is_differing name vs) where
  by_test : (differs : Bool) → times (cond differs (message.Changed d (having name vs) (leaving name vs) ∷ []) []) ≡ []
  by_test true = refl
  by_test false = refl
no_times stands time name None vs = by_leaving (leaving name vs) where
  by_leaving : (ls : List ℕ) → times (gone_from stands time name ls) ≡ []
  by_leaving [] = refl
  by_leaving (l ∷ ls) = by_kind stands where
    by_kind : (stand : Bool) → times (cond stand (message.Removed name time (l ∷ ls)) (message.Deleted name time (l ∷ ls)) ∷ []) ≡ []
    by_kind true = refl
    by_kind false = refl

no_times_told : (stands : DocName → Bool) (time : ℤ) (vs : List Views) (ns : List DocName)
    → times (flat_map (λ name. told_of (stands name) time name (shown_in name vs) vs) ns) ≡ []
no_times_told stands time vs [] = refl
no_times_told stands time vs (n ∷ ns) =
    filter_map-append raise_in (told_of (stands n) time n (shown_in n vs) vs) _
    ∙ ap (λ ts. ts ++ times (flat_map (λ name. told_of (stands name) time name (shown_in name vs) vs) ns)) (no_times (stands n) time n (shown_in n vs) vs)
    ∙ no_times_told stands time vs ns

no_times_current : (time : ℤ) (ids : List ℕ) → times (current_from time ids) ≡ []
no_times_current time [] = refl
no_times_current time (id ∷ ids) = refl

-- what is sent ends with the time of the raise, and has no other
pub sent_times : (stands : DocName → Bool) (time : ℤ) (s : Listening) (vs : List Views) → times (sent stands time s vs) ≡ time ∷ []
sent_times stands time s vs =
    filter_map-append raise_in (told stands time vs) _
    ∙ ap (λ ts. ts ++ times (current_from time (new_targets s) ++ message.NoChange time (token_of time) ∷ [])) (no_times_told stands time vs (names_of vs))
    ∙ filter_map-append raise_in (current_from time (new_targets s)) _
    ∙ ap (λ ts. ts ++ times (message.NoChange time (token_of time) ∷ [])) (no_times_current time (new_targets s))

pub sent_ends : (said : List ListenMessage) (stands : DocName → Bool) (time : ℤ) (s : Listening) (vs : List Views)
    → ended_at (said ++ sent stands time s vs) ≡ Some time
sent_ends said stands time s vs =
    ap ended_at
    (sym (append_assoc said (told stands time vs) (current_from time (new_targets s) ++ message.NoChange time (token_of time) ∷ []))
    ∙ sym (append_assoc (said ++ told stands time vs) (current_from time (new_targets s)) (message.NoChange time (token_of time) ∷ [])))
    ∙ ended_with ((said ++ told stands time vs) ++ current_from time (new_targets s)) (message.NoChange time (token_of time))

current_leaves : (id : ℕ) (name : DocName) (start : Option Document) (time : ℤ) (ids : List ℕ) (had : Option Document)
    → gathered id name start (current_from time ids) had ≡ had
current_leaves id name start time [] had = refl
current_leaves id name start time (k ∷ ids) had = refl

-- behind what is told of the names nothing changes
pub sent_tells : (id : ℕ) (name : DocName) (start : Option Document) (stands : DocName → Bool) (time : ℤ) (s : Listening) (vs : List Views) (had : Option Document)
    → gathered id name start (sent stands time s vs) had ≡ gathered id name start (told stands time vs) had
sent_tells id name start stands time s vs had =
    gathered-append id name start (told stands time vs) _ had
    ∙ gathered-append id name start (current_from time (new_targets s)) _ _
    ∙ current_leaves id name start time (new_targets s) _

-- ---- times that never fall

pub falls_with : (ts : List ℤ) (t : ℤ) → NeverFalls ts → AllByRecursion (λ u. u ≤ℤ t) ts → NeverFalls (ts ++ t ∷ [])
falls_with [] t falls by = (tt, tt)
falls_with (u ∷ ts) t falls by = (all_with ts falls.0, falls_with ts t falls.1 by.1) where
  all_with : (ss : List ℤ) → AllByRecursion (λ v. u ≤ℤ v) ss → AllByRecursion (λ v. u ≤ℤ v) (ss ++ t ∷ [])
  all_with [] all = (by.0, tt)
  all_with (v ∷ ss) all = (all.0, all_with ss all.1)

pub by_with : (ts : List ℤ) (t : ℤ) → AllByRecursion (λ u. u ≤ℤ t) ts → AllByRecursion (λ u. u ≤ℤ t) (ts ++ t ∷ [])
by_with [] t by = (omega (arith, ints), tt)
by_with (u ∷ ts) t by = (by.0, by_with ts t by.1)

pub all_later : (ts : List ℤ) (s t : ℤ) → s ≤ℤ t → AllByRecursion (λ u. u ≤ℤ s) ts → AllByRecursion (λ u. u ≤ℤ t) ts
all_later [] s t later by = tt
all_later (u ∷ ts) s t later by = (let low : u ≤ℤ s = by.0 in omega (arith, ints), all_later ts s t later by.1)
