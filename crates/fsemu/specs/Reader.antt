-- What only private clauses cite: the words of the command line as they are read, one by one.
use Rattle.std.specs.Prelude.{ℕ, Bool, ◌&&◌, ◌==◌, nat_le, nat_lt, List, [], ◌∷◌, length, codes, Option, Some, None, is_none, option_map, option_and_then, unwrap_or, if◌then◌else◌}
use Rattle.std.specs.List.{before_first, after_first, position_or_len}
use Rattle.std.specs.Option.{option_copied}
use Rattle.std.specs.Str.Parse.{digits_value}
use Rattle.fs_path.specs.Scope.{most_shards}
use Rattle.fs_machine.specs.declared.config.Mode.{Mode}
use Rattle.fs_machine.specs.declared.config.Mode.TheVariants.{Pessimistic, Optimistic}
use Rattle.fs_path.specs.TextOrder.{text_eq}
use Rattle.fsemu.specs.declared.given.Given.{Given}
use Rattle.fsemu.specs.declared.given.Name.{Name}
use Rattle.fsemu.specs.declared.given.Name.TheVariants.{Project, Concurrency, Shards}
use Rattle.fsemu.specs.declared.options.Options.{Options}
use Rattle.fsemu.specs.declared.reader.Reader.{Reader}
use Rattle.fsemu.specs.Words.{Setting, project, concurrency, shards, is_project, is_number, mode_text, default_options}

-- what the options so far set
pub record Found : Type 0 where
  pub project : Option (List ℕ)
  pub mode : Option Mode
  pub shards : Option ℕ

-- no option was given
abbrev pub nothing : Found
nothing = record { project = None; mode = None; shards = None }

-- the same as the code has it
abbrev pub found_by : Given → Found
found_by given = record { project = option_copied given.project; mode = given.mode; shards = given.shards }

-- the options, with the defaults for what isn't set
abbrev pub options_by : Found → Options
options_by found = record {
  project = unwrap_or found.project default_options.project;
  mode = unwrap_or found.mode default_options.mode;
  shards = unwrap_or found.shards default_options.shards;
}

-- ---- one option

-- the option whose name a text is
abbrev pub name_in : List ℕ → Option Name
name_in text =
    if text_eq text (codes "--project") then Some Project
    else (if text_eq text (codes "--concurrency") then Some Concurrency
    else (if text_eq text (codes "--shards") then Some Shards
    else None))

-- the mode whose text it is
abbrev pub mode_in : List ℕ → Option Mode
mode_in text =
    if text_eq text (mode_text Pessimistic) then Some Pessimistic
    else (if text_eq text (mode_text Optimistic) then Some Optimistic
    else None)

-- the number that a text writes
abbrev pub number_in : List ℕ → Option ℕ
number_in text = if is_number text then Some (digits_value 10 text) else None

-- a number of shards that there may be
abbrev pub if_shards : ℕ → Option ℕ
if_shards n = if nat_le 1 n && nat_le n most_shards then Some n else None

-- the number of shards that a text writes
abbrev pub shards_in : List ℕ → Option ℕ
shards_in text = option_and_then if_shards (number_in text)

-- what the option of that name sets by a text
abbrev pub setting_in : Name → List ℕ → Option Setting
setting_in Project text = if is_project text then Some (project text) else None
setting_in Concurrency text = option_map concurrency (mode_in text)
setting_in Shards text = option_map shards (shards_in text)

-- with one setting more, unless the same option came before
abbrev pub add : Found → Setting → Option Found
add found (project name) = if is_none found.project then Some (record found { project = Some name }) else None
add found (concurrency mode) = if is_none found.mode then Some (record found { mode = Some mode }) else None
add found (shards n) = if is_none found.shards then Some (record found { shards = Some n }) else None

-- with what the option of that name sets by a text
abbrev pub with_value : Found → Name → List ℕ → Option Found
with_value found name text = option_and_then (add found) (setting_in name text)

-- ---- word by word

-- what was read so far, and the option whose value is the next word
pub record State : Type 0 where
  pub found : Found
  pub awaited : Option Name

-- the same as the code has it
abbrev pub state_by : Reader → State
state_by reader = record { found = found_by reader.given; awaited = reader.awaited }

-- before the first word
abbrev pub at_first : State
at_first = record { found = nothing; awaited = None }

-- a value, behind which the next option may come
abbrev pub read_value : State → Name → List ℕ → Option State
read_value s name text = option_map (λ found. record { found = found; awaited = None }) (with_value s.found name text)

-- `=`
abbrev pub is_equals : ℕ → Bool
is_equals c = c == 61

-- whether a word has one
abbrev pub has_equals : List ℕ → Bool
has_equals word = nat_lt (position_or_len is_equals word) (length word)

-- an option's name, or its name and its value round `=`
abbrev pub read_option : State → List ℕ → Option State
read_option s word =
    if has_equals word
    then option_and_then (λ name. read_value s name (after_first is_equals word)) (name_in (before_first is_equals word))
    else option_map (λ name. record s { awaited = Some name }) (name_in word)

-- a word, by whether a value is awaited
abbrev pub read_awaited : Option Name → State → List ℕ → Option State
read_awaited (Some name) s word = read_value s name word
read_awaited None s word = read_option s word

-- the next word
abbrev pub read_word : State → List ℕ → Option State
read_word s word = read_awaited s.awaited s word

-- all words, from a state on
abbrev pub read_all : State → List (List ℕ) → Option State
read_all s [] = Some s
read_all s (word ∷ words) = option_and_then (λ next. read_all next words) (read_word s word)

-- what was found, where no value is awaited
abbrev pub if_ended : Option Name → Found → Option Found
if_ended (Some name) found = None
if_ended None found = Some found

-- what was found behind the last word
abbrev pub ended : State → Option Found
ended s = if_ended s.awaited s.found

-- what the words behind the command set
abbrev pub read_options : List (List ℕ) → Option Found
read_options words = option_and_then ended (read_all at_first words)

-- what the words of the command set
abbrev pub read_command : List (List ℕ) → Option Found
read_command [] = None
read_command (command ∷ words) = if text_eq command (codes "replay") then read_options words else None
