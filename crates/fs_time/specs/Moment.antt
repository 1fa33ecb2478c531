-- The moments that Firestore has, in microseconds since 1970-01-01T00:00:00Z (`google.protobuf.Timestamp`).
use Rattle.std.specs.Prelude.{ℤ, pos, neg_ℤ, Bool, ◌&&◌, int_le, IsTrue}

-- 0001-01-01T00:00:00Z
abbrev pub first_moment : ℤ
first_moment = neg_ℤ (pos 62_135_596_800_000_000)

-- 9999-12-31T23:59:59.999999Z
abbrev pub last_moment : ℤ
last_moment = pos 253_402_300_799_999_999

-- from the first to the last
abbrev pub is_moment : ℤ → Bool
is_moment z = int_le first_moment z && int_le z last_moment

abbrev pub IsMoment : ℤ → Type 0
IsMoment z = IsTrue (is_moment z)
