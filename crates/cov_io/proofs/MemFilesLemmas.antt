-- Lemmas on files in memory.
use Rattle.std.proofs.Common.{◌≡◌, ℕ, zero, suc, ◌<◌, List, [], ◌∷◌, ◌++◌, length, get_or, drop, slice_get, Option, Some, None, is_some, true, arith, refl, ap}
use Rattle.std.specs.Str.{bytes_eq}
use Rattle.cov_io.specs.declared.mem_files.MemFile.{MemFile}
use Rattle.cov_io.specs.Outside.{file_of}
use Rattle.cov_io.specs.declared.mem_files.Reading.{Reading}
use Rattle.cov_io.specs.MemFiles.{HeldFiles, IsReading, left_of, table, bytes_of}

-- the file at a place that has the name is the first from there on
pub file_of-drop : (files : List MemFile) (at : ℕ) (name : List ℕ) (f : MemFile) → at < length files → f ≡ get_or files at f → bytes_eq f.name name ≡ true
    → file_of (table (drop at files)) name ≡ Some (bytes_of (slice_get files at))
file_of-drop [] at name f h e b = absurd (omega arith)
file_of-drop (g ∷ gs) zero name f h e b = let same : bytes_eq g.name name ≡ true = rw e at b in rw same refl
file_of-drop (g ∷ gs) (suc at) name f h e b = file_of-drop gs at name f (omega arith) e b

-- one more file is one more entry
pub table-push : (files : List MemFile) (f : MemFile) → table (files ++ f ∷ []) ≡ table files ++ (f.name, f.bytes) ∷ []
table-push [] f = refl
table-push (g ∷ gs) f = ap (λ fs. (g.name, g.bytes) ∷ fs) (table-push gs f)

-- a file at a place is there with one more file behind it
pub slice_get-push : (files : List MemFile) (i : ℕ) (f : MemFile) → i < length files → slice_get (files ++ f ∷ []) i ≡ slice_get files i
slice_get-push [] i f h = absurd (omega arith)
slice_get-push (g ∷ gs) zero f h = refl
slice_get-push (g ∷ gs) (suc i) f h = slice_get-push gs i f (omega arith)

-- what is left of the file that is read does not change with one more file
pub left_of-push : (files : List MemFile) (r : Option Reading) (f : MemFile) → IsReading files r → left_of (files ++ f ∷ []) r ≡ left_of files r
left_of-push files None f h = refl
left_of-push files (Some r) f h = ap (λ o. drop r.from (bytes_of o)) (slice_get-push files r.file f h.0)

-- the view of files with one more
pub held-push : (files : List MemFile) (r : Option Reading) (f : MemFile) (name bytes : List ℕ) (calls faults : ℕ) (failing : List ℕ) (old : HeldFiles)
    → IsReading files r → f.name ≡ name → f.bytes ≡ bytes
    → (record { files = table files; left = left_of files r; begun = is_some r; calls = calls; failing = failing; faults = faults }) ≡ old
    → (record { files = table (files ++ f ∷ []); left = left_of (files ++ f ∷ []) r; begun = is_some r; calls = calls; failing = failing; faults = faults })
    ≡ record old { files = old.files ++ (name, bytes) ∷ [] }
held-push files r f name bytes calls faults failing old h n b e = rw (← e, table-push files f, left_of-push files r f h, n, b) refl
