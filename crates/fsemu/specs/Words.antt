-- The words of the command line: `replay --shards 8 --project=shop`. (The program's own.)
use Rattle.std.specs.Prelude.{◌≡◌, ◌≢◌, ℕ, ◌≤◌, Bool, false, ◌&&◌, ◌||◌, ◌==◌, nat_le, IsTrue, List, [], ◌∷◌, ◌++◌, length, codes, fold, AllPairs, ◌⊎◌}
use Rattle.std.specs.Char.{is_ascii_digit, is_ascii_lowercase}
use Rattle.std.specs.List.{list_all}
use Rattle.std.specs.Str.Parse.{digits_value}
use Rattle.fs_path.specs.Scope.{most_shards}
use Rattle.fs_machine.specs.declared.config.Config.{Config}
use Rattle.fs_machine.specs.declared.config.Mode.{Mode}
use Rattle.fs_machine.specs.declared.config.Mode.TheVariants.{Pessimistic, Optimistic}
use Rattle.fsemu.specs.declared.options.Options.{Options}

-- a character of a project's name: a lower-case letter, a digit or `-`
abbrev pub is_project_letter : ℕ → Bool
is_project_letter c = is_ascii_lowercase c || is_ascii_digit c || c == 45

-- the fewest characters of a project's name
abbrev pub shortest_project : ℕ
shortest_project = 2

-- and the most
abbrev pub longest_project : ℕ
longest_project = 30

-- it begins with a lower-case letter: `demo`, `shop-2`
abbrev pub is_project_text : List ℕ → Bool
is_project_text [] = false
is_project_text (first ∷ more) = is_ascii_lowercase first && list_all is_project_letter more

-- the name that a project may have
abbrev pub is_project : List ℕ → Bool
is_project name = nat_le shortest_project (length name) && nat_le (length name) longest_project && is_project_text name

-- the most digits that a number is written with
abbrev pub most_digits : ℕ
most_digits = 10

-- a number is written with 1 to 10 decimal digits, and may begin with zeros: `8`, `008`
abbrev pub is_number : List ℕ → Bool
is_number text = nat_le 1 (length text) && nat_le (length text) most_digits && list_all is_ascii_digit text

-- what one option sets
pub data Setting : Type 0 where
  project : List ℕ → Setting
  concurrency : Mode → Setting
  shards : ℕ → Setting

-- the name of the option that sets it
abbrev pub option_of : Setting → List ℕ
option_of (project _) = codes "--project"
option_of (concurrency _) = codes "--concurrency"
option_of (shards _) = codes "--shards"

-- the text of a mode
abbrev pub mode_text : Mode → List ℕ
mode_text Pessimistic = codes "pessimistic"
mode_text Optimistic = codes "optimistic"

-- the text is one for the value that is set
abbrev pub IsValue : Setting → List ℕ → Type 0
IsValue (project name) text = (text ≡ name) × IsTrue (is_project name)
IsValue (concurrency mode) text = text ≡ mode_text mode
IsValue (shards n) text = IsTrue (is_number text) × (digits_value 10 text ≡ n) × (1 ≤ n) × (n ≤ most_shards)

-- A setting is written in two words, `--shards 8`, or in one, `--shards=8`.
abbrev pub IsWritten : Setting → List (List ℕ) → Type 0
IsWritten setting words =
    (value : List ℕ) × IsValue setting value
    × ((words ≡ option_of setting ∷ value ∷ []) ⊎ (words ≡ (option_of setting ++ codes "=" ++ value) ∷ []))

-- settings are written one after another
abbrev pub AreWritten : List Setting → List (List ℕ) → Type 0
AreWritten [] words = words ≡ []
AreWritten (setting ∷ more) words =
    (own : List (List ℕ)) × (rest : List (List ℕ)) × (words ≡ own ++ rest) × IsWritten setting own × AreWritten more rest

-- what holds where nothing is set: the project `demo`, pessimistic, 4 shards
abbrev pub default_options : Options
default_options = record { project = codes "demo"; mode = Pessimistic; shards = 4 }

-- the same options but for what is set
abbrev pub with_setting : Options → Setting → Options
with_setting options (project name) = record options { project = name }
with_setting options (concurrency mode) = record options { mode = mode }
with_setting options (shards n) = record options { shards = n }

-- The words are `replay` and then settings, in any order and no option twice; they ask for the defaults but for what is set.
pub record IsReplay (words : List (List ℕ)) (options : Options) : Type 0 where
  pub settings : List Setting
  pub rest : List (List ℕ)
  pub command : words ≡ codes "replay" ∷ rest
  pub written : AreWritten settings rest
  pub once : AllPairs (λ s t. option_of s ≢ option_of t) settings
  pub asked : options ≡ fold with_setting default_options settings

-- the words are a command; for all others the program tells how it is used
pub record IsCommand (words : List (List ℕ)) : Type 0 where
  pub options : Options
  pub asks : IsReplay words options

-- options that a server may have: a project's name, and 1 to 16 shards
pub record AreAllowed (options : Options) : Type 0 where
  pub project : IsTrue (is_project options.project)
  pub some : 1 ≤ options.shards
  pub few : options.shards ≤ most_shards

-- the configuration of a server by options: its database is the default one
abbrev pub config_of : Options → Config
config_of options = record { root = record { project = options.project; database = codes "(default)" }; mode = options.mode; shards = options.shards }

-- a fact of the configuration that the words ask for
abbrev pub IfAsked : List (List ℕ) → (Config → Type 0) → Type 0
IfAsked words P = (options : Options) → IsReplay words options → P (config_of options)
