-- What is read of the words is what they ask for.
use Rattle.std.proofs.Common.{◌≡◌, ◌⊎◌, ℕ, Bool, true, false, cond, List, [], ◌∷◌, ◌++◌, length, get_or, Option, Some, None, inl, inr, refl, sym, ap, ◌∙◌, subst, codes, append_assoc}
use Rattle.std.specs.List.{before_first, after_first, position_or_len}
use Rattle.std.specs.Option.{option_and_then, option_map}
use Rattle.fs_path.specs.TextOrder.{text_eq, text_is}
use Rattle.fsemu.specs.declared.given.Name.{Name}
use Rattle.fsemu.specs.declared.given.Name.TheVariants.{Project, Concurrency, Shards}
use Rattle.fsemu.specs.declared.options.Options.{Options}
use Rattle.fsemu.specs.Words.{Setting, project, concurrency, shards, option_of, IsValue, IsWritten, AreWritten, IsReplay}
use Rattle.fsemu.specs.Reader.{Found, State, nothing, add, name_in, setting_in, read_value, read_option, read_awaited, read_all, read_options, read_command, ended, if_ended, has_equals, is_equals, options_by}
use Rattle.fsemu.proofs.Cuts.{joined, has, before, after}
use Rattle.fsemu.proofs.Found.{add_all, is_set, all_added, can_all_be_added}
use Rattle.fsemu.proofs.Settings.{name_of, name_text, named, named_back, read, again}

-- ---- what is read was asked for

-- where the reader stands
abbrev state : Found → Option Name → State
state f awaited = record { found = f; awaited = awaited }

-- the words from where the reader stands on, with the name whose value it awaits
abbrev unread : Option Name → List (List ℕ) → List (List ℕ)
unread None words = words
unread (Some name) words = name_text name ∷ words

-- the words set what was found on the way from f to g
record Set (f : Found) (words : List (List ℕ)) (g : Found) : Type 0 where
  settings : List Setting
  written : AreWritten settings words
  added : add_all f settings ≡ Some g

-- a setting in front of them
one_more : (f g h : Found) (s : Setting) (own rest : List (List ℕ)) → IsWritten s own → add f s ≡ Some h → Set h rest g → Set f (own ++ rest) g
one_more f g h s own rest is first more = record {
  settings = s ∷ more.settings;
  written = (own, rest, refl, is, more.written);
  added = ap (option_and_then (λ h. add_all h more.settings)) first ∙ more.added;
}

-- a value that was read, behind an option's name in a word of its own or behind its `=`
value_read : (f g : Found) (next : State) (name : Name) (text : List ℕ) (own rest : List (List ℕ)) (os : Option Setting) → setting_in name text ≡ os
    → (oh : Option Found) → option_and_then (add f) os ≡ oh → option_map (λ h. state h None) oh ≡ Some next
    → (own ≡ name_text name ∷ text ∷ []) ⊎ (own ≡ (name_text name ++ codes "=" ++ text) ∷ [])
    → Set next.found (unread next.awaited rest) g → Set f (own ++ rest) g
value_read f g next name text own rest (Some s) is (Some h) first e form more =
    let here = state h None in
    let same : here ≡ next = cc in
    let later : Set h rest g = subst (λ (n : State). Set n.found (unread n.awaited rest) g) (sym same) more in
    let setting = read name text s is in
    let written = subst (λ t. (own ≡ t ∷ text ∷ []) ⊎ (own ≡ (t ++ codes "=" ++ text) ∷ [])) (sym setting.0) form in
    one_more f g h s own rest (text, setting.1, written) first later
value_read f g next name text own rest (Some s) is None first e form more = absurd (cc)
value_read f g next name text own rest None is oh first e form more = absurd (cc)

by_value : (f g : Found) (awaited : Option Name) (next : State) (name : Name) (text : List ℕ) (own rest : List (List ℕ))
    → read_value (state f awaited) name text ≡ Some next
    → (own ≡ name_text name ∷ text ∷ []) ⊎ (own ≡ (name_text name ++ codes "=" ++ text) ∷ [])
    → Set next.found (unread next.awaited rest) g → Set f (own ++ rest) g
by_value f g awaited next name text own rest e form more = value_read f g next name text own rest _ refl _ refl e form more

-- a word with a name, an `=` and a value
with_equals : (f g : Found) (next : State) (word : List ℕ) (rest : List (List ℕ)) (on : Option Name) → has_equals word ≡ true → name_in (before_first is_equals word) ≡ on
    → option_and_then (λ name. read_value (state f None) name (after_first is_equals word)) on ≡ Some next
    → Set next.found (unread next.awaited rest) g → Set f (word ∷ rest) g
with_equals f g next word rest (Some name) cut is e more =
    let text = after_first is_equals word in
    let called = named (before_first is_equals word) name is in
    let whole : word ≡ name_text name ++ codes "=" ++ text =
    joined word cut ∙ (ap (λ n. n ++ 61 ∷ text) called ∙ sym (append_assoc (name_text name) (codes "=") text)) in
    by_value f g None next name text (word ∷ []) rest e (inr (ap (λ w. w ∷ []) whole)) more
with_equals f g next word rest None cut is e more = absurd (cc)

-- a word with a name alone
name_alone : (f g : Found) (next : State) (word : List ℕ) (rest : List (List ℕ)) (on : Option Name) → name_in word ≡ on
    → option_map (λ name. state f (Some name)) on ≡ Some next
    → Set next.found (unread next.awaited rest) g → Set f (word ∷ rest) g
name_alone f g next word rest (Some name) is e more =
    let here = state f (Some name) in
    let same : here ≡ next = cc in
    let later : Set f (name_text name ∷ rest) g = subst (λ (n : State). Set n.found (unread n.awaited rest) g) (sym same) more in
    subst (λ w. Set f (w ∷ rest) g) (sym (named word name is)) later
name_alone f g next word rest None is e more = absurd (cc)

by_option : (f g : Found) (next : State) (word : List ℕ) (rest : List (List ℕ)) (b : Bool) → has_equals word ≡ b
    → cond b (option_and_then (λ name. read_value (state f None) name (after_first is_equals word)) (name_in (before_first is_equals word)))
    (option_map (λ name. state f (Some name)) (name_in word)) ≡ Some next
    → Set next.found (unread next.awaited rest) g → Set f (word ∷ rest) g
by_option f g next word rest true cut e more = with_equals f g next word rest _ cut refl e more
by_option f g next word rest false cut e more = name_alone f g next word rest _ refl e more

by_word : (f g : Found) (awaited : Option Name) (next : State) (word : List ℕ) (rest : List (List ℕ))
    → read_awaited awaited (state f awaited) word ≡ Some next
    → Set next.found (unread next.awaited rest) g → Set f (unread awaited (word ∷ rest)) g
by_word f g (Some name) next word rest e more = by_value f g (Some name) next name word (name_text name ∷ word ∷ []) rest e (inl refl) more
by_word f g None next word rest e more = by_option f g next word rest _ refl e more

at_end : (f g : Found) (awaited : Option Name) → if_ended awaited f ≡ Some g → Set f (unread awaited []) g
at_end f g None e = record { settings = []; written = refl; added = e }
at_end f g (Some name) e = absurd (cc)

by_first : (f g : Found) (awaited : Option Name) (word : List ℕ) (rest : List (List ℕ)) (o : Option State)
    → read_awaited awaited (state f awaited) word ≡ o
    → option_and_then ended (option_and_then (λ next. read_all next rest) o) ≡ Some g
    → ((next : State) → option_and_then ended (read_all next rest) ≡ Some g → Set next.found (unread next.awaited rest) g)
    → Set f (unread awaited (word ∷ rest)) g
by_first f g awaited word rest (Some next) is e later = by_word f g awaited next word rest is (later next e)
by_first f g awaited word rest None is e later = absurd (cc)

all_read : (f g : Found) (awaited : Option Name) (words : List (List ℕ)) → option_and_then ended (read_all (state f awaited) words) ≡ Some g
    → Set f (unread awaited words) g
all_read f g awaited [] e = at_end f g awaited e
all_read f g awaited (word ∷ rest) e = by_first f g awaited word rest _ refl e (λ next h. all_read next.found g next.awaited rest h)

by_command : (command : List ℕ) (given : List (List ℕ)) (g : Found) (b : Bool) → text_eq command (codes "replay") ≡ b
    → cond b (read_options given) None ≡ Some g → IsReplay (command ∷ given) (options_by g)
by_command command given g true is e =
    let set = all_read nothing g None given e in
    let all = all_added nothing g set.settings set.added in
    record {
      settings = set.settings;
      rest = given;
      command = ap (λ c. c ∷ given) (text_is _ _ is);
      written = set.written;
      once = all.once;
      asked = all.options;
    }
by_command command given g false is e = absurd (cc)

-- what is read was asked for
pub sound : (words : List (List ℕ)) (g : Found) → read_command words ≡ Some g → IsReplay words (options_by g)
sound [] g e = absurd (cc)
sound (command ∷ given) g e = by_command command given g _ refl e

-- ---- what is asked for is read

no_equals : (s : Setting) → position_or_len is_equals (option_of s) ≡ length (option_of s)
no_equals (project _) = refl
no_equals (concurrency _) = refl
no_equals (shards _) = refl

name_read : (f : Found) (s : Setting) → read_option (state f None) (option_of s) ≡ Some (state f (Some (name_of s)))
name_read f (project _) = refl
name_read f (concurrency _) = refl
name_read f (shards _) = refl

value_again : (f h : Found) (awaited : Option Name) (s : Setting) (value : List ℕ) → IsValue s value → add f s ≡ Some h
    → read_value (state f awaited) (name_of s) value ≡ Some (state h None)
value_again f h awaited s value fits first =
    let to : Found → State = λ h. state h None in
    ap (λ o. option_map to (option_and_then (add f) o)) (again s value fits) ∙ ap (option_map to) first

cut_read : (f : Found) (word name value : List ℕ) (n : Name) → has_equals word ≡ true → before_first is_equals word ≡ name → after_first is_equals word ≡ value → name_in name ≡ Some n
    → read_option (state f None) word ≡ read_value (state f None) n value
cut_read f word name value n cut front back is =
    let from = state f None in
    let alone = option_map (λ name. state f (Some name)) (name_in word) in
    let named = λ (t : List ℕ) (v : List ℕ). option_and_then (λ n. read_value from n v) (name_in t) in
    ap (λ b. cond b (named (before_first is_equals word) (after_first is_equals word)) alone) cut
    ∙ (ap (λ t. named t (after_first is_equals word)) front
    ∙ (ap (named name) back
    ∙ ap (option_and_then (λ n. read_value from n value)) is))

both_read : (f h : Found) (s : Setting) (value : List ℕ) → IsValue s value → add f s ≡ Some h
    → read_option (state f None) (option_of s ++ codes "=" ++ value) ≡ Some (state h None)
both_read f h s value fits first =
    let name = option_of s in
    let none = no_equals s in
    let read = cut_read f (name ++ 61 ∷ value) name value (name_of s) (has name value none) (before name value none) (after name value none) (named_back s) in
    ap (read_option (state f None)) (append_assoc name (codes "=") value) ∙ (read ∙ value_again f h None s value fits first)

setting_read : (f h : Found) (s : Setting) (own rest : List (List ℕ)) → IsWritten s own → add f s ≡ Some h
    → read_all (state f None) (own ++ rest) ≡ read_all (state h None) rest
setting_read f h s own rest (value, fits, inl form) first =
    let from = state f None in
    ap (λ own. read_all from (own ++ rest)) form
    ∙ (ap (option_and_then (λ next. read_all next (value ∷ rest))) (name_read f s)
    ∙ ap (option_and_then (λ next. read_all next rest)) (value_again f h (Some (name_of s)) s value fits first))
setting_read f h s own rest (value, fits, inr form) first =
    let from = state f None in
    ap (λ own. read_all from (own ++ rest)) form
    ∙ ap (option_and_then (λ next. read_all next rest)) (both_read f h s value fits first)

by_setting : (f g : Found) (s : Setting) (more : List Setting) (own rest : List (List ℕ)) (o : Option Found) → IsWritten s own → add f s ≡ o
    → option_and_then (λ h. add_all h more) o ≡ Some g
    → ((h : Found) → add_all h more ≡ Some g → option_and_then ended (read_all (state h None) rest) ≡ Some g)
    → option_and_then ended (read_all (state f None) (own ++ rest)) ≡ Some g
by_setting f g s more own rest (Some h) first is e later = ap (option_and_then ended) (setting_read f h s own rest first is) ∙ later h e
by_setting f g s more own rest None first is e later = absurd (cc)

asked : (f g : Found) (settings : List Setting) (words : List (List ℕ)) → AreWritten settings words → add_all f settings ≡ Some g
    → option_and_then ended (read_all (state f None) words) ≡ Some g
asked f g [] words is added = rw is added
asked f g (s ∷ more) words (own, rest, is, first, later) added =
    ap (λ words. option_and_then ended (read_all (state f None) words)) is
    ∙ by_setting f g s more own rest _ first refl added (λ h e. asked h g more rest later e)

none_set : (n : Name) → is_set nothing n ≡ false
none_set Project = refl
none_set Concurrency = refl
none_set Shards = refl

-- what is asked for is read
pub complete : (words : List (List ℕ)) (o : Options) → IsReplay words o → (g : Found) × (read_command words ≡ Some g) × (o ≡ options_by g)
complete words o is =
    let can = can_all_be_added nothing is.settings (λ k d lt. none_set (name_of (get_or is.settings k d))) is.once in
    let g = can.0 in
    let all = all_added nothing g is.settings can.1 in
    (g, ap read_command is.command ∙ asked nothing g is.settings is.rest is.written can.1, is.asked ∙ sym all.options)

pub refused : (words : List (List ℕ)) → read_command words ≡ None → (o : Options) → ¬ (IsReplay words o)
refused words none o is =
    let bad = (complete words o is).1 in
    cc

-- words that are read ask for nothing else
pub only : (words : List (List ℕ)) (g : Found) → read_command words ≡ Some g → (o : Options) → IsReplay words o → o ≡ options_by g
only words g e o is =
    let all = complete words o is in
    let same : all.0 ≡ g = let both : Some all.0 ≡ Some g = sym all.1 ∙ e in cc in
    all.2 ∙ ap options_by same
