-- Cited by private clauses alone: what the values that the code passes on show, as the definitions of times have it.
use Rattle.std.specs.Prelude.{ℕ, ◌≤◌, Option, Some, option_map, List, [], ◌∷◌}
use Rattle.std.specs.Borrow.{Bor}
use Rattle.fs_time.specs.declared.parts.Parts.{Parts}
use Rattle.fs_time.specs.declared.parts.Offset as code
use Rattle.fs_time.specs.declared.parts.Offset.TheVariants.{Utc, Ahead, Behind}
use Rattle.fs_time.specs.Pieces.{Numbers, Read, ◌>>=◌, read, printed, Fit}
use Rattle.fs_time.specs.Stamp as Stamp
use Rattle.fs_time.specs.Stamp.{utc, ahead, behind, Offset, Stamp, most_decimals, form, numbers, decimals_piece, offset_pieces}
use Rattle.fs_time.specs.Rfc3339 as Rfc3339

abbrev pub offset_by : code.Offset → Offset
offset_by Utc = record { sign = utc; hours = 0; minutes = 0 }
offset_by (Ahead hours minutes) = record { sign = ahead; hours = hours; minutes = minutes }
offset_by (Behind hours minutes) = record { sign = behind; hours = hours; minutes = minutes }

abbrev pub stamp_by : Parts → Stamp
stamp_by p =
    record {
      year = p.year;
      month = p.month;
      day = p.day;
      hour = p.hour;
      minute = p.minute;
      second = p.second;
      places = p.places;
      fraction = p.fraction;
      offset = offset_by p.offset;
    }

-- what a function of the code read, and the bytes after it
abbrev pub read_by : {A B : Type 0} → (A → B) → Option (A × Bor (List ℕ)) → Read B
read_by view r = option_map (λ p. (view p.0, p.1.now)) r

-- how many decimals stand there, and those as one number
abbrev pub decimals_at : List ℕ → Read (ℕ × ℕ)
decimals_at text = option_map (λ r. ((Rfc3339.places_at text, r.0.0), r.1)) (read (decimals_piece (Rfc3339.places_at text) ∷ []) text)

-- the offset that stands there
abbrev pub offset_at : List ℕ → Read Offset
offset_at text = do
  sign ← Rfc3339.sign_at text
  offset ← read (offset_pieces sign) text
  Some (record { sign = sign; hours = offset.0.0; minutes = offset.0.1.0 }, offset.1)

-- the numbers of the date and the time of day
abbrev pub date_time : Parts → Numbers Stamp.date_time
date_time p = (p.year, (p.month, (p.day, (p.hour, (p.minute, (p.second, tt))))))

-- the text of the date and the time of day
abbrev pub date_time_text : Parts → List ℕ
date_time_text p = printed Stamp.date_time (date_time p)

-- the text of the decimals
abbrev pub decimals_text : Parts → List ℕ
decimals_text p = printed (decimals_piece p.places ∷ []) (p.fraction, tt)

-- the numbers have no more digits than their pieces
abbrev pub AreRead : Parts → Type 0
AreRead p =
    let s = stamp_by p in
    Fit (form s.places s.offset.sign) (numbers s) × (s.places ≤ most_decimals)
