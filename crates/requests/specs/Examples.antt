-- Document 01's worked example and a few more files, with the text that each gives.
use Rattle.std.specs.Prelude.{ℕ, List, [], ◌∷◌}

-- minimum 1, region 65,536; allocate 10,1; allocate 8,8; free 424,8,8; allocate 6,1; grow 426,6,1,20,1
abbrev pub first_night : List ℕ
first_night =
    1 ∷ 1 ∷ 0 ∷ 1 ∷ 0 ∷ 0 ∷ 0 ∷ 9 ∷ 1 ∷ 0 ∷ 0 ∷ 0 ∷ 10 ∷ 0 ∷ 0 ∷ 0 ∷ 1 ∷ 0 ∷ 9 ∷ 1 ∷ 0 ∷ 0 ∷ 0 ∷ 8
    ∷ 0 ∷ 0 ∷ 0 ∷ 8 ∷ 0 ∷ 13 ∷ 2 ∷ 0 ∷ 0 ∷ 1 ∷ 168 ∷ 0 ∷ 0 ∷ 0 ∷ 8 ∷ 0 ∷ 0 ∷ 0 ∷ 8 ∷ 0 ∷ 9 ∷ 1 ∷ 0 ∷ 0
    ∷ 0 ∷ 6 ∷ 0 ∷ 0 ∷ 0 ∷ 1 ∷ 0 ∷ 21 ∷ 3 ∷ 0 ∷ 0 ∷ 1 ∷ 170 ∷ 0 ∷ 0 ∷ 0 ∷ 6 ∷ 0 ∷ 0 ∷ 0 ∷ 1 ∷ 0 ∷ 0 ∷ 0
    ∷ 20 ∷ 0 ∷ 0 ∷ 0 ∷ 1 ∷ []

-- `1 at 438`, `2 at 424`, `3 done`, `4 at 426`, `5 at 412`, `held 448 in 1 chunks`
abbrev pub first_night_text : List ℕ
first_night_text =
    49 ∷ 32 ∷ 97 ∷ 116 ∷ 32 ∷ 52 ∷ 51 ∷ 56 ∷ 10 ∷ 50 ∷ 32 ∷ 97 ∷ 116 ∷ 32 ∷ 52 ∷ 50 ∷ 52 ∷ 10 ∷ 51 ∷ 32 ∷ 100 ∷ 111 ∷ 110 ∷ 101
    ∷ 10 ∷ 52 ∷ 32 ∷ 97 ∷ 116 ∷ 32 ∷ 52 ∷ 50 ∷ 54 ∷ 10 ∷ 53 ∷ 32 ∷ 97 ∷ 116 ∷ 32 ∷ 52 ∷ 49 ∷ 50 ∷ 10 ∷ 104 ∷ 101 ∷ 108 ∷ 100 ∷ 32
    ∷ 52 ∷ 52 ∷ 56 ∷ 32 ∷ 105 ∷ 110 ∷ 32 ∷ 49 ∷ 32 ∷ 99 ∷ 104 ∷ 117 ∷ 110 ∷ 107 ∷ 115 ∷ 10 ∷ []

-- five bytes of a good header
abbrev pub short_header : List ℕ
short_header =
    1 ∷ 1 ∷ 0 ∷ 1 ∷ 0 ∷ []

-- a good header but for its version, 2, and a record
abbrev pub later_version : List ℕ
later_version =
    2 ∷ 1 ∷ 0 ∷ 1 ∷ 0 ∷ 0 ∷ 0 ∷ 1 ∷ 5 ∷ []

-- `0 bad header`, `held 0 in 0 chunks`
abbrev pub bad_header_only : List ℕ
bad_header_only =
    48 ∷ 32 ∷ 98 ∷ 97 ∷ 100 ∷ 32 ∷ 104 ∷ 101 ∷ 97 ∷ 100 ∷ 101 ∷ 114 ∷ 10 ∷ 104 ∷ 101 ∷ 108 ∷ 100 ∷ 32 ∷ 48 ∷ 32 ∷ 105 ∷ 110 ∷ 32 ∷ 48
    ∷ 32 ∷ 99 ∷ 104 ∷ 117 ∷ 110 ∷ 107 ∷ 115 ∷ 10 ∷ []

-- region 512; reset; a record that is cut after its code, which is no code
abbrev pub cut_inside : List ℕ
cut_inside =
    1 ∷ 1 ∷ 0 ∷ 0 ∷ 2 ∷ 0 ∷ 0 ∷ 1 ∷ 5 ∷ 0 ∷ 9 ∷ 77 ∷ []

-- `1 done`, `2 cut off`, `held 0 in 0 chunks`
abbrev pub cut_inside_text : List ℕ
cut_inside_text =
    49 ∷ 32 ∷ 100 ∷ 111 ∷ 110 ∷ 101 ∷ 10 ∷ 50 ∷ 32 ∷ 99 ∷ 117 ∷ 116 ∷ 32 ∷ 111 ∷ 102 ∷ 102 ∷ 10 ∷ 104 ∷ 101 ∷ 108 ∷ 100 ∷ 32 ∷ 48 ∷ 32
    ∷ 105 ∷ 110 ∷ 32 ∷ 48 ∷ 32 ∷ 99 ∷ 104 ∷ 117 ∷ 110 ∷ 107 ∷ 115 ∷ 10 ∷ []

-- region 512; a record of length 0; reset, which is not reached
abbrev pub length_zero : List ℕ
length_zero =
    1 ∷ 1 ∷ 0 ∷ 0 ∷ 2 ∷ 0 ∷ 0 ∷ 0 ∷ 0 ∷ 1 ∷ 5 ∷ []

-- region 512; code 11; reset, which is not reached
abbrev pub unknown_code : List ℕ
unknown_code =
    1 ∷ 1 ∷ 0 ∷ 0 ∷ 2 ∷ 0 ∷ 0 ∷ 1 ∷ 11 ∷ 0 ∷ 1 ∷ 5 ∷ []

-- `1 bad record`, `held 0 in 0 chunks`
abbrev pub bad_first : List ℕ
bad_first =
    49 ∷ 32 ∷ 98 ∷ 97 ∷ 100 ∷ 32 ∷ 114 ∷ 101 ∷ 99 ∷ 111 ∷ 114 ∷ 100 ∷ 10 ∷ 104 ∷ 101 ∷ 108 ∷ 100 ∷ 32 ∷ 48 ∷ 32 ∷ 105 ∷ 110 ∷ 32 ∷ 48
    ∷ 32 ∷ 99 ∷ 104 ∷ 117 ∷ 110 ∷ 107 ∷ 115 ∷ 10 ∷ []

-- region 512; allocate 1,3; free 0,1,1; allocate 1,1
abbrev pub refusals : List ℕ
refusals =
    1 ∷ 1 ∷ 0 ∷ 0 ∷ 2 ∷ 0 ∷ 0 ∷ 9 ∷ 1 ∷ 0 ∷ 0 ∷ 0 ∷ 1 ∷ 0 ∷ 0 ∷ 0 ∷ 3 ∷ 0 ∷ 13 ∷ 2 ∷ 0 ∷ 0 ∷ 0 ∷ 0
    ∷ 0 ∷ 0 ∷ 0 ∷ 1 ∷ 0 ∷ 0 ∷ 0 ∷ 1 ∷ 0 ∷ 9 ∷ 1 ∷ 0 ∷ 0 ∷ 0 ∷ 1 ∷ 0 ∷ 0 ∷ 0 ∷ 1 ∷ []

-- `1 refused 4`, `2 refused 5`, `3 at 447`, `held 448 in 1 chunks`
abbrev pub refusals_text : List ℕ
refusals_text =
    49 ∷ 32 ∷ 114 ∷ 101 ∷ 102 ∷ 117 ∷ 115 ∷ 101 ∷ 100 ∷ 32 ∷ 52 ∷ 10 ∷ 50 ∷ 32 ∷ 114 ∷ 101 ∷ 102 ∷ 117 ∷ 115 ∷ 101 ∷ 100 ∷ 32 ∷ 53 ∷ 10
    ∷ 51 ∷ 32 ∷ 97 ∷ 116 ∷ 32 ∷ 52 ∷ 52 ∷ 55 ∷ 10 ∷ 104 ∷ 101 ∷ 108 ∷ 100 ∷ 32 ∷ 52 ∷ 52 ∷ 56 ∷ 32 ∷ 105 ∷ 110 ∷ 32 ∷ 49 ∷ 32 ∷ 99
    ∷ 104 ∷ 117 ∷ 110 ∷ 107 ∷ 115 ∷ 10 ∷ []
