-- What is told of names makes the view that was sent the new one.
use Rattle.std.proofs.Common.{◌≡◌, ℕ, ℤ, Bool, true, false, cond, not, ◌&&◌, ◌||◌, ◌⊎◌, inl, inr, List, [], ◌∷◌, ◌++◌, map, Option, Some, None, refl, sym, ap, ◌∙◌, subst}
use Rattle.std.specs.Prelude.{IfSome, IsTrue, is_some}
use Rattle.std.specs.FinMap.{find, get, is_sorted}
use Rattle.std.specs.Ordering.{nat_cmp}
use Rattle.std.specs.List.{AllByRecursion, list_any, flat_map}
use Rattle.fs_path.specs.NameOrder.{name_eq, name_is, name_itself}
use Rattle.fs_path.specs.declared.name.DocName.{DocName}
use Rattle.fs_query.specs.declared.listen.ListenMessage.{ListenMessage}
use Rattle.fs_query.specs.declared.listen.ListenMessage.TheVariants as message
use Rattle.fs_value.specs.declared.document.Document.{Document}
use Rattle.fs_write.specs.Batch.{AreNamed, Docs}
use Rattle.fs_listen.specs.Gathered.{gathered, is_in}
use Rattle.fs_listen.specs.Told.{Views, having, leaving, is_differing, shown_in, gone_from, told_of, told, names_of}
use Rattle.fs_listen.proofs.Listed.{at_found, in_passing}
use Rattle.fs_listen.proofs.Names.{alike, none_shown, shown_there, unnamed}

pub gathered-append : (id : ℕ) (name : DocName) (start : Option Document) (ms ns : List ListenMessage) (had : Option Document)
    → gathered id name start (ms ++ ns) had ≡ gathered id name start ns (gathered id name start ms had)
gathered-append id name start [] ns had = refl
gathered-append id name start (m ∷ ms) ns had = gathered-append id name start ms ns _

-- what stood, or what is to stand
abbrev Was : Option Document → Option Document → Option Document → Type 0
Was old new had = (had ≡ old) ⊎ (had ≡ new)

-- ---- one message, by what the lists of targets say

changed_to : (old new had : Option Document) (d : Document) → Was old new had → IfSome new (λ x. Some d ≡ Some x)
    → cond (is_some new) (Some d) (cond (is_some old && not (is_some new)) None had) ≡ new
changed_to old (Some x) had d was shown = shown
changed_to None None had d (inl is) shown = is
changed_to None None had d (inr is) shown = is
changed_to (Some y) None had d was shown = refl

gone_to : (old had : Option Document) → Was old None had → cond (is_some old && true) None had ≡ None
gone_to None had (inl is) = is
gone_to None had (inr is) = is
gone_to (Some y) had was = refl

stays : (old new had : Option Document) → Was old new had → old ≡ new → had ≡ new
stays old new had (inl is) same = is ∙ same
stays old new had (inr is) same = is

-- ---- of a target among others

module _ {X : Type 0} (f : ℕ × X → Views) (ids : (e : ℕ × X) → (f e).id ≡ e.0) (es : List (ℕ × X)) (rise : IsTrue (is_sorted nat_cmp es)) (docs : Docs)
    (named : AreNamed docs) (agree : (name : DocName) → AllByRecursion (λ (v : Views). IfSome (get v.new name) (λ x. get docs name ≡ Some x)) (map f es))
    (stands : DocName → Bool) (time : ℤ) (id : ℕ) (x : X) (found : find nat_cmp id es ≡ Some x) (name : DocName) (start : Option Document) where
  abbrev vs : List Views
  vs = map f es

  abbrev old : Option Document
  old = get (f (id, x)).sent name

  abbrev new : Option Document
  new = get (f (id, x)).new name

  has : is_in id (having name vs) ≡ is_some new
  has = in_passing f ids (λ (v : Views). is_some (get v.new name)) id es x rise found

  left : is_in id (leaving name vs) ≡ (is_some old && not (is_some new))
  left = in_passing f ids (λ (v : Views). is_some (get v.sent name) && not (is_some (get v.new name))) id es x rise found

  -- ---- at the name

  there : (o : Option Document) (d : Document) → IfSome o (λ y. get docs name ≡ Some y) → get docs name ≡ Some d → IfSome o (λ y. Some d ≡ Some y)
  there None d none is = tt
  there (Some y) d got is = sym is ∙ got

  is_named : (d : Document) → get docs name ≡ Some d → d.name ≡ name
  is_named d is = subst (λ o. IfSome o (λ (e : Document). e.name ≡ name)) is (named name)

  changing : (d : Document) (had : Option Document) (differs : Bool) → shown_in name vs ≡ Some d → is_differing name vs ≡ differs → Was old new had
      → gathered id name start (cond differs (message.Changed d (having name vs) (leaving name vs) ∷ []) []) had ≡ new
  changing d had true shown is was =
      let got = shown_there docs name vs d (agree name) shown in
      let here = ap (name_eq name) (is_named d got) ∙ name_itself name in
      let agrees = at_found (λ (v : Views). IfSome (get v.new name) (λ y. get docs name ≡ Some y)) f id x es found (agree name) in
      (λ i. cond (here i) (cond (has i) (Some d) (cond (left i) None had)) had)
      ∙ changed_to old new had d was (there new d agrees got)
  changing d had false shown is was = stays old new had was (at_found (λ (v : Views). get v.sent name ≡ get v.new name) f id x es found (alike name vs is))

  going : (had : Option Document) (ls : List ℕ) → new ≡ None → is_in id ls ≡ (is_some old && not (is_some new)) → Was old new had
      → gathered id name start (gone_from (stands name) time name ls) had ≡ new
  going had [] none lists was = none_in (is_some old) refl where
    none_in : (some : Bool) → is_some old ≡ some → had ≡ new
    none_in some is = stays old new had was (no_old old (lists ∙ (λ i. is_some old && not (is_some (none i)))) ∙ sym none) where
      no_old : (o : Option Document) → false ≡ (is_some o && true) → o ≡ None
      no_old None same = refl
      no_old (Some y) same = absurd (cc)
  going had (l ∷ ls) none lists was = by_kind (stands name) where
    ends : cond (name_eq name name && is_in id (l ∷ ls)) None had ≡ new
    ends =
        (λ i. cond (name_itself name i && (lists ∙ (λ j. is_some old && not (is_some (none j)))) i) None had)
        ∙ gone_to old had (subst (λ n. Was old n had) none was) ∙ sym none

    by_kind : (stand : Bool)
        → gathered id name start (cond stand (message.Removed name time (l ∷ ls)) (message.Deleted name time (l ∷ ls)) ∷ []) had ≡ new
    by_kind true = ends
    by_kind false = ends

  at_name : (had : Option Document) (shown : Option Document) → shown_in name vs ≡ shown → Was old new had
      → gathered id name start (told_of (stands name) time name shown vs) had ≡ new
  at_name had None is was = going had (leaving name vs) (at_found (λ (v : Views). get v.new name ≡ None) f id x es found (none_shown name vs is)) left was
  at_name had (Some d) is was = changing d had (is_differing name vs) is refl was

  -- ---- at another name

  at_other : (other : DocName) (had : Option Document) (shown : Option Document) → shown_in other vs ≡ shown → name_eq name other ≡ false
      → gathered id name start (told_of (stands other) time other shown vs) had ≡ had
  at_other other had None is apart = by_leaving (leaving other vs) where
    by_leaving : (ls : List ℕ) → gathered id name start (gone_from (stands other) time other ls) had ≡ had
    by_leaving [] = refl
    by_leaving (l ∷ ls) = by_kind (stands other) where
      by_kind : (stand : Bool)
          → gathered id name start (cond stand (message.Removed other time (l ∷ ls)) (message.Deleted other time (l ∷ ls)) ∷ []) had ≡ had
      by_kind true = ap (λ b. cond (b && is_in id (l ∷ ls)) None had) apart
      by_kind false = ap (λ b. cond (b && is_in id (l ∷ ls)) None had) apart
  at_other other had (Some d) is apart = by_differing (is_differing other vs) where
    bears : d.name ≡ other
    bears = subst (λ o. IfSome o (λ (e : Document). e.name ≡ other)) (shown_there docs other vs d (agree other) is) (named other)

    by_differing : (differs : Bool) → gathered id name start (cond differs (message.Changed d (having other vs) (leaving other vs) ∷ []) []) had ≡ had
    by_differing true = ap (λ b. cond b (cond (is_in id (having other vs)) (Some d) (cond (is_in id (leaving other vs)) None had)) had) (ap (name_eq name) bears ∙ apart)
    by_differing false = refl

  -- ---- at all names

  abbrev told_at : DocName → List ListenMessage
  told_at other = told_of (stands other) time other (shown_in other vs) vs

  one_more : (other : DocName) (had : Option Document) (same : Bool) → name_eq name other ≡ same → Was old new had
      → gathered id name start (told_at other) had ≡ cond same new had
  one_more other had true is was =
      ap (λ n. gathered id name start (told_at n) had) (sym (name_is name other is)) ∙ at_name had (shown_in name vs) refl was
  one_more other had false is was = at_other other had (shown_in other vs) refl is

  new_stays : (ns : List DocName) (had : Option Document) → had ≡ new → gathered id name start (flat_map told_at ns) had ≡ new
  new_stays [] had is = is
  new_stays (n ∷ ns) had is =
      gathered-append id name start (told_at n) (flat_map told_at ns) had
      ∙ new_stays ns _ (one_more n had (name_eq name n) refl (inr is) ∙ either (name_eq name n))
    where
      either : (same : Bool) → cond same new had ≡ new
      either true = refl
      either false = is

  through : (ns : List DocName) (had : Option Document) (among : Bool) → list_any (name_eq name) ns ≡ among → Was old new had
      → gathered id name start (flat_map told_at ns) had ≡ cond among new had
  through [] had among is was = ap (λ b. cond b new had) is
  through (n ∷ ns) had among is was = by_test (λ rest. through ns had among rest was) (name_eq name n) refl where
    by_test : (list_any (name_eq name) ns ≡ among → gathered id name start (flat_map told_at ns) had ≡ cond among new had) → (same : Bool) → name_eq name n ≡ same → gathered id name start (flat_map told_at (n ∷ ns)) had ≡ cond among new had
    by_test again true at =
        gathered-append id name start (told_at n) (flat_map told_at ns) had
        ∙ new_stays ns _ (one_more n had true at was)
        ∙ ap (λ b. cond b new had) (sym (ap (λ b. b || list_any (name_eq name) ns) at) ∙ is)
    by_test again false at =
        gathered-append id name start (told_at n) (flat_map told_at ns) had
        ∙ ap (gathered id name start (flat_map told_at ns)) (one_more n had false at was)
        ∙ again (sym (ap (λ b. b || list_any (name_eq name) ns) at) ∙ is)

  -- whoever had the view that was sent has the new one
  pub new_view : gathered id name start (told stands time (map f es)) (get (f (id, x)).sent name) ≡ get (f (id, x)).new name
  new_view = by_test (list_any (name_eq name) (names_of vs)) refl where
    by_test : (among : Bool) → list_any (name_eq name) (names_of vs) ≡ among
        → gathered id name start (told stands time vs) old ≡ new
    by_test true is = through (names_of vs) old true is (inl refl)
    by_test false is =
        let none = unnamed name vs is in
        through (names_of vs) old false is (inl refl)
        ∙ at_found (λ (v : Views). get v.sent name ≡ None) f id x es found none.0
        ∙ sym (at_found (λ (v : Views). get v.new name ≡ None) f id x es found none.1)
