-- Files in memory as names and bytes.
use Rattle.std.specs.Prelude.{◌≡◌, ℕ, ◌<◌, ◌≤◌, Bool, true, false, List, [], ◌∷◌, drop, length, min, slice_get, Option, Some, None, Result, Ok, Err, Contains, IsSome, IsErr}
use Rattle.cov_io.specs.declared.mem_files.MemFile.{MemFile}
use Rattle.cov_io.specs.declared.mem_files.Reading.{Reading}
use Rattle.cov_io.specs.declared.outside.Failed.{Failed}
use Rattle.cov_io.specs.declared.outside.StartFault.{StartFault}
use Rattle.cov_io.specs.declared.outside.StartFault.TheVariants as start
use Rattle.cov_io.specs.Outside.{Table, file_of, one_more}

-- the names and bytes of files
abbrev pub table : List MemFile → Table
table [] = []
table (f ∷ fs) = (f.name, f.bytes) ∷ table fs

-- the bytes of a file that may be missing
abbrev pub bytes_of : Option MemFile → List ℕ
bytes_of None = []
bytes_of (Some f) = f.bytes

-- what is left of the file that is read
abbrev pub left_of : List MemFile → Option Reading → List ℕ
left_of files None = []
left_of files (Some r) = drop r.from (bytes_of (slice_get files r.file))

-- the file that is read is there, and no more than its bytes were taken
abbrev pub IsReading : List MemFile → Option Reading → Type 0
IsReading files None = Unit {0}
IsReading files (Some r) = (r.file < length files) × (r.from ≤ length (bytes_of (slice_get files r.file)))

-- what files in memory hold and tell
pub record HeldFiles : Type 0 where
  pub files : Table
  pub left : List ℕ
  pub begun : Bool
  pub calls : ℕ
  pub failing : List ℕ
  pub faults : ℕ

-- the call that comes next is to fail
abbrev pub IsToFail : HeldFiles → Type 0
IsToFail f = Contains f.failing (one_more f.calls)

-- the files after one more call, with no file that is read
abbrev pub refused : HeldFiles → HeldFiles
refused f = record f { left = []; begun = false; calls = one_more f.calls; faults = one_more f.faults }

-- Beginning a file: a name that is not held fails and is not counted; each other call is counted, and fails only where it is listed.
pub record StartsExactly (old new : HeldFiles) (name : List ℕ) (result : Result (Unit {0}) StartFault) : Type 0 where
  pub absent : file_of old.files name ≡ None → (result ≡ Err start.Failed) × (new ≡ record old { left = []; begun = false })
  pub failing : IsSome (file_of old.files name) → IsToFail old → (result ≡ Err start.Failed) × (new ≡ refused old)
  pub begins : (bytes : List ℕ) → file_of old.files name ≡ Some bytes → (IsToFail old → ⊥)
      → (result ≡ Ok tt) × (new ≡ record old { left = bytes; begun = true; calls = one_more old.calls })

-- Taking bytes: each call is counted, fails only where it is listed, and else takes all that there is room for.
pub record TakesExactly (old new : HeldFiles) (room : ℕ) (result : Result ℕ Failed) : Type 0 where
  pub failing : IsToFail old → IsErr result × (new ≡ record old { calls = one_more old.calls; faults = one_more old.faults })
  pub takes : (IsToFail old → ⊥) → (result ≡ Ok (min (length old.left) room))
      × (new ≡ record old { left = drop (min (length old.left) room) old.left; calls = one_more old.calls })
