-- The targets that a raise looks at, and what it tells of a name by them. (Only private clauses cite this.)
use Rattle.std.specs.Prelude.{◌≡◌, ℤ, true, List, map}
use Rattle.std.specs.FinMap.{get}
use Rattle.std.specs.List.{AllByRecursion}
use Rattle.fs_path.specs.declared.name.DocName.{DocName}
use Rattle.fs_query.specs.declared.listen.ListenMessage.{ListenMessage}
use Rattle.fs_listen.specs.Told.{Views, shown_in, told_of}
use Rattle.fs_target.specs.Kept.{docs_at}
use Rattle.fs_target.specs.Latest.{latest_of}
use Rattle.fs_target.specs.Ready.{sent_of}
use Rattle.fs_target.specs.Staged.{up_to}
use Rattle.fs_target.specs.declared.told.Look.{Look}

-- what its staged events come to is that of a time
abbrev pub IsAt : ℤ → Look → Type 0
IsAt time l = l.latest ≡ latest_of (up_to time l.kept.now.kept.staged)

abbrev pub AreAt : ℤ → List Look → Type 0
AreAt time ls = AllByRecursion (λ (l : Look). IsAt time l) ls

-- the view that was sent of it, and the one that was made ready for a time
abbrev pub views_of : ℤ → Look → Views
views_of time l = record { id = l.id; sent = l.kept.now.kept.sent; new = sent_of l.kept.now.next (docs_at time l.kept.now.kept) }

abbrev pub all_views : ℤ → List Look → List Views
all_views time ls = map (views_of time) ls

-- ---- at a name

-- the two views of each have the same there
abbrev pub AreAlike : DocName → List Views → Type 0
AreAlike name vs = AllByRecursion (λ (v : Views). get v.sent name ≡ get v.new name) vs

-- what is told of it, where no store is looked at
abbrev pub told_at : ℤ → List Views → DocName → List ListenMessage
told_at time vs name = told_of true time name (shown_in name vs) vs
