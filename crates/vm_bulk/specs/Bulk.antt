-- The script of a bulk run: so many processes, each of which takes sixty frames from the camera.
use Rattle.std.specs.Prelude.{ℕ, zero, suc, ◌+◌, ◌*◌, ◌%◌, ◌==◌, List, [], ◌∷◌, ◌++◌, codes, if◌then◌else◌, flat_map}
use Rattle.std.specs.Fmt.{decimal}

-- ---- lines

-- lines as a text: each ends at a newline
abbrev pub ended : List (List ℕ) → List ℕ
ended lines = flat_map (λ line. line ++ 10 ∷ []) lines

-- the lines of 0, of 1, and so on below this number
unfoldable pub below : ℕ → (ℕ → List (List ℕ)) → List (List ℕ)
below zero lines = []
below (suc n) lines = below n lines ++ lines n

-- a line whose last word ends in a number
abbrev pub numbered : List ℕ → ℕ → List (List ℕ)
numbered words n = (words ++ decimal n) ∷ []

-- ---- a process

-- the codes of the six formats, by their place
abbrev pub format_word : ℕ → List ℕ
format_word place =
    if place == 0 then codes "GREY"
    else (if place == 1 then codes "YUYV"
    else (if place == 2 then codes "UYVY"
    else (if place == 3 then codes "NV12"
    else (if place == 4 then codes "YU12"
    else codes "RGB3"))))

-- the format of the process of this number, and its width and height
abbrev pub format_line : ℕ → List ℕ
format_line p =
    codes "sfmt a cap " ++ (format_word (p % 6) ++ (codes " "
    ++ (decimal (64 + 16 * p) ++ (codes " " ++ decimal (48 + 16 * p)))))

-- it chooses its pictures
abbrev pub choosing : ℕ → List (List ℕ)
choosing p =
    codes "open a" ∷ format_line p ∷
    (numbered (codes "sinput a ") (p % 4) ++ codes "reqbufs a cap mmap 4" ∷ [])

-- it maps the buffer of this number
abbrev pub mapping : ℕ → List (List ℕ)
mapping k = numbered (codes "mmap a m" ++ (decimal k ++ codes " cap ")) k

-- it queues the buffer of this number
abbrev pub queueing : ℕ → List (List ℕ)
queueing k = numbered (codes "qbuf a cap ") k

-- it takes a frame, which lies in the buffer of this number, looks at it, and queues it again
abbrev pub taking : ℕ → List (List ℕ)
taking k = codes "dqbuf a cap" ∷ (numbered (codes "hash a m") k ++ queueing k)

-- it unmaps the buffer of this number
abbrev pub unmapping : ℕ → List (List ℕ)
unmapping k = numbered (codes "munmap a m") k

-- The statements of the process of this number. It streams with four buffers and takes sixty frames.
abbrev pub statements : ℕ → List (List ℕ)
statements p =
    choosing p ++ (below 4 mapping ++ (below 4 queueing ++ (codes "streamon a cap" ∷
    (below 60 (λ r. taking (r % 4)) ++ (codes "streamoff a cap" ∷
    (below 4 unmapping ++ codes "close a" ∷ []))))))

-- ---- the script

-- the line with which each process but the first begins
abbrev pub beginning : ℕ → List (List ℕ)
beginning p = if p == 0 then [] else codes "proc" ∷ []

-- the lines of the process of this number
abbrev pub process_lines : ℕ → List (List ℕ)
process_lines p = beginning p ++ statements p

-- the script of so many processes
abbrev pub bulk_text : ℕ → List ℕ
bulk_text n = ended (codes "device capture" ∷ below n process_lines)
