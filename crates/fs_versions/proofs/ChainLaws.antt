-- What a chain shows and keeps, by how many of its versions are at or before a time.
use Rattle.std.proofs.Common.{◌≡◌, ℕ, suc, ◌+◌, ◌-◌, ◌<◌, ℤ, ◌≤ℤ◌, Bool, true, false, cond, List, [], ◌∷◌, ◌++◌, Option, Some, None, length, take, drop, get_or, reverse, refl, sym, ap, ◌∙◌, subst, arith, length-drop, drop-cons}
use Rattle.std.specs.Prelude.{int_le, is_none, is_some}
use Rattle.std.specs.List.{All}
use Rattle.std.proofs.lemmas.List.{take-append-drop, take_more, reverse-append, reverse-reverse, get_or-reverse, get_or-drop, length-reverse}
use Rattle.fs_time.proofs.Tests.{not_after_later}
use Rattle.fs_value.specs.declared.document.Document.{Document}
use Rattle.fs_history.proofs.KeptVersions.{shown_kept, newest_kept}
use Rattle.fs_history.specs.Versions.{newest, shown, base, kept}
use Rattle.fs_history.specs.declared.version.Version.{Version}
use Rattle.fs_versions.specs.Chain.{shown_at, last_document, cut}
use Rattle.fs_versions.specs.Sound.{IsSplit}

-- ---- versions that are later

abbrev AllLater : ℤ → List Version → Type 0
AllLater t vs = All (λ v. int_le v.time t ≡ false) vs

shown_past : (t : ℤ) (later vs : List Version) → AllLater t later → shown t (later ++ vs) ≡ shown t vs
shown_past t [] vs h = refl
shown_past t (v ∷ later) vs h =
    ap (λ c. cond c v.after (shown t (later ++ vs))) (h 0 v (omega arith)) ∙ shown_past t later vs (λ k d within. h (suc k) d (omega arith))

kept_past : (f : ℤ) (later vs : List Version) → AllLater f later → kept f (later ++ vs) ≡ later ++ kept f vs
kept_past f [] vs h = refl
kept_past f (v ∷ later) vs h =
    ap (λ c. cond c (base v) (v ∷ kept f (later ++ vs))) (h 0 v (omega arith))
    ∙ ap (λ us. v ∷ us) (kept_past f later vs (λ k d within. h (suc k) d (omega arith)))

module _ (chain : List Version) (t : ℤ) (n : ℕ) (split : IsSplit chain t n) where
  later : List Version
  later = reverse (drop n chain)

  all_later : AllLater t later
  unfolding later
  all_later k d within =
      let rest = drop n chain in
      let short : k < length rest = omega (arith, length-reverse rest, within) in
      let place = length rest - 1 - k in
      subst (λ (v : Version). int_le v.time t ≡ false) (sym (get_or-reverse rest k d short ∙ get_or-drop n chain place d))
      (split.others (n + place) d (omega arith) (omega (arith, length-drop n chain)))

  -- the newest in front: first the later ones
  parted : reverse chain ≡ later ++ reverse (take n chain)
  unfolding later
  parted = ap reverse (sym (take-append-drop n chain)) ∙ reverse-append (take n chain) (drop n chain)

  shown_parted : shown_at t chain ≡ shown t (reverse (take n chain))
  shown_parted = ap (shown t) parted ∙ shown_past t later (reverse (take n chain)) all_later

  cut_parted : cut t chain ≡ reverse (kept t (reverse (take n chain))) ++ drop n chain
  unfolding later
  cut_parted =
      ap (λ vs. reverse (kept t vs)) parted
      ∙ ap reverse (kept_past t later (reverse (take n chain)) all_later)
      ∙ reverse-append later (kept t (reverse (take n chain)))
      ∙ ap (λ vs. reverse (kept t (reverse (take n chain))) ++ vs) (reverse-reverse (drop n chain))

-- ---- the newest of those that aren't

reverse_more : (chain : List Version) (j : ℕ) (d : Version) → j < length chain → reverse (take (j + 1) chain) ≡ get_or chain j d ∷ reverse (take j chain)
reverse_more chain j d within = ap reverse (take_more chain j d within) ∙ reverse-append (take j chain) (get_or chain j d ∷ [])

pub shown_none : (chain : List Version) (t : ℤ) (n : ℕ) → IsSplit chain t n → n ≡ 0 → shown_at t chain ≡ None
shown_none chain t n split none = shown_parted chain t n split ∙ ap (λ k. shown t (reverse (take k chain))) none

module _ (chain : List Version) (t : ℤ) (n : ℕ) (split : IsSplit chain t n) (some : 0 < n) (d : Version) where
  last : Version
  last = get_or chain (n - 1) d

  turned : reverse (take n chain) ≡ last ∷ reverse (take (n - 1) chain)
  unfolding last
  turned =
      let whole : n ≡ n - 1 + 1 = omega arith in
      ap (λ k. reverse (take k chain)) whole ∙ reverse_more chain (n - 1) d (let within = split.within in omega arith)

  last_within : int_le last.time t ≡ true
  unfolding last
  last_within = split.first (n - 1) d (omega arith) (omega arith)

  pub shown_last : shown_at t chain ≡ (get_or chain (n - 1) d).after
  unfolding last
  shown_last =
      shown_parted chain t n split
      ∙ ap (shown t) turned
      ∙ ap (λ c. cond c (get_or chain (n - 1) d).after (shown t (reverse (take (n - 1) chain)))) last_within

  cut_last : cut t chain ≡ reverse (base last) ++ drop n chain
  cut_last =
      cut_parted chain t n split
      ∙ ap (λ vs. reverse (kept t vs) ++ drop n chain) turned
      ∙ ap (λ c. reverse (cond c (base last) (last ∷ kept t (reverse (take (n - 1) chain)))) ++ drop n chain) last_within

  pub cut_gone : (get_or chain (n - 1) d).after ≡ None → cut t chain ≡ drop n chain
  unfolding last
  cut_gone none = cut_last ∙ ap (λ o. reverse (cond (is_none o) [] (last ∷ [])) ++ drop n chain) none

  some_base : (o : Option Document) → is_some o ≡ true → reverse (cond (is_none o) [] (last ∷ [])) ≡ last ∷ []
  some_base None is = absurd (cc)
  some_base (Some x) is = refl

  pub cut_kept : is_some (get_or chain (n - 1) d).after ≡ true → cut t chain ≡ drop (n - 1) chain
  unfolding last
  cut_kept is =
      let within = split.within in
      let whole : n ≡ suc (n - 1) = omega arith in
      cut_last
      ∙ ap (λ vs. vs ++ drop n chain) (some_base last.after is)
      ∙ ap (λ k. get_or chain (n - 1) d ∷ drop k chain) whole
      ∙ sym (drop-cons chain (n - 1) d (omega arith))

pub cut_none : (chain : List Version) (t : ℤ) (n : ℕ) → IsSplit chain t n → n ≡ 0 → cut t chain ≡ drop n chain
cut_none chain t n split none = cut_parted chain t n split ∙ ap (λ k. reverse (kept t (reverse (take k chain))) ++ drop n chain) none

-- ---- the last version

pub last_of : (chain : List Version) (d : Version) → 0 < length chain → last_document chain ≡ (get_or chain (length chain - 1) d).after
last_of chain d some =
    let n = length chain in
    let whole : n ≡ n - 1 + 1 = omega arith in
    ap (λ vs. newest (reverse vs)) (sym (take_all chain) ∙ ap (λ k. take k chain) whole) ∙ ap newest (reverse_more chain (n - 1) d (omega arith))
  where
    take_all : (vs : List Version) → take (length vs) vs ≡ vs
    take_all [] = refl
    take_all (v ∷ vs) = ap (λ us. v ∷ us) (take_all vs)

-- ---- cutting again, and showing what is kept

pub shown_cut : (f t : ℤ) (chain : List Version) → f ≤ℤ t → shown_at t (cut f chain) ≡ shown_at t chain
shown_cut f t chain within = ap (shown t) (reverse-reverse (kept f (reverse chain))) ∙ shown_kept f t (reverse chain) within

pub last_cut : (f : ℤ) (chain : List Version) → last_document (cut f chain) ≡ last_document chain
last_cut f chain = ap newest (reverse-reverse (kept f (reverse chain))) ∙ newest_kept f (reverse chain)

base_kept : (f t : ℤ) (v : Version) (o : Option Document) → v.after ≡ o → int_le v.time t ≡ true → kept t (cond (is_none o) [] (v ∷ [])) ≡ cond (is_none o) [] (v ∷ [])
base_kept f t v None is within = refl
base_kept f t v (Some x) is within = ap (λ c. cond c (base v) (v ∷ [])) within ∙ ap (λ o. cond (is_none o) [] (v ∷ [])) is

kept_next : (f t : ℤ) (v : Version) (vs : List Version) (b : Bool) → int_le v.time f ≡ b → f ≤ℤ t → kept t (kept f vs) ≡ kept t vs
    → kept t (cond b (base v) (v ∷ kept f vs)) ≡ kept t (v ∷ vs)
kept_next f t v vs true is within more =
    let here = not_after_later v.time f t is within in
    base_kept f t v v.after refl here ∙ sym (ap (λ c. cond c (base v) (v ∷ kept t vs)) here)
kept_next f t v vs false is within more = ap (λ us. cond (int_le v.time t) (base v) (v ∷ us)) more

pub kept_kept : (f t : ℤ) (vs : List Version) → f ≤ℤ t → kept t (kept f vs) ≡ kept t vs
kept_kept f t [] within = refl
kept_kept f t (v ∷ vs) within = kept_next f t v vs (int_le v.time f) refl within (kept_kept f t vs within)
