-- Limits of numbers and lengths.
use Rattle.std.specs.Prelude.{ℕ}

-- 2 ^ 62: the greatest index, term, time, session, epoch and running number
abbrev pub last_number : ℕ
last_number = 4611686018427387904

-- 2 ^ 31 - 1: the greatest version, count of children and `int` of the protocol
abbrev pub last_count : ℕ
last_count = 2147483647

-- 2 ^ 32 - 1: the greatest length that a field of 32 bits holds
abbrev pub longest_field : ℕ
longest_field = 4294967295

-- 2 ^ 20 - 1: the length of the longest frame of the protocol, in bytes
abbrev pub longest_frame : ℕ
longest_frame = 1048575
