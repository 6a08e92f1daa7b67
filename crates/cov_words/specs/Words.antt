-- What the words after the program's name ask for.
use Rattle.std.specs.Prelude.{ℕ, ◌+◌, ◌*◌, ◌-◌, Bool, true, false, not, ◌==◌, ◌&&◌, nat_le, List, [], ◌∷◌, ◌++◌, codes, length, map, if◌then◌else◌, Option, Some, None, String, string_bytes}
use Rattle.std.specs.List.{list_all}
use Rattle.std.specs.Str.{bytes_eq}
use Rattle.std.specs.declared.alloc.Global.{Global}
use Rattle.cov_words.specs.declared.job.Job.{Job}
use Rattle.cov_words.specs.declared.job.Job.TheVariants.{Init, Reach, Check, Vacuity, Cover, Replay}
use Rattle.cov_words.specs.declared.job.Opts.{Opts}

-- the file of a job's model
abbrev pub model_name : Job → List ℕ
model_name (Init model opts) = model
model_name (Reach model opts) = model
model_name (Check model opts) = model
model_name (Vacuity model opts) = model
model_name (Cover model signals opts) = model
model_name (Replay model evidence) = model

-- the file of a job's evidence; only a replay has one
abbrev pub evidence_name : Job → Option (List ℕ)
evidence_name (Init model opts) = None
evidence_name (Reach model opts) = None
evidence_name (Check model opts) = None
evidence_name (Vacuity model opts) = None
evidence_name (Cover model signals opts) = None
evidence_name (Replay model evidence) = Some evidence

-- the numbers of options that are not given
abbrev pub default_options : Opts
default_options = record { nodes = 1000000; cubes = 200 }

-- the numbers of a job's options
abbrev pub opts_of : Job → Opts
opts_of (Init model opts) = opts
opts_of (Reach model opts) = opts
opts_of (Check model opts) = opts
opts_of (Vacuity model opts) = opts
opts_of (Cover model signals opts) = opts
opts_of (Replay model evidence) = default_options

-- ---- words

-- whether a word is no option: it does not begin with `-`
abbrev pub is_positional : List ℕ → Bool
is_positional [] = true
is_positional (b ∷ bs) = not (b == 45)

-- what stands behind a front in a word that begins with it
abbrev pub behind : List ℕ → List ℕ → Option (List ℕ)
behind [] word = Some word
behind (a ∷ front) [] = None
behind (a ∷ front) (b ∷ word) = if a == b then behind front word else None

-- Words that are sorted: the positional ones, and the values that each option is given, in their order.
pub record Sorted : Type 0 where
  pub positional : List (List ℕ)
  pub nodes : List (List ℕ)
  pub cubes : List (List ℕ)

-- nothing yet
abbrev pub nothing : Sorted
nothing = record { positional = []; nodes = []; cubes = [] }

-- one more positional word, all of these more, or one more value of an option
abbrev pub with_positional : List ℕ → Sorted → Sorted
with_positional w s = record s { positional = s.positional ++ w ∷ [] }

abbrev pub with_all : List (List ℕ) → Sorted → Sorted
with_all ws s = record s { positional = s.positional ++ ws }

abbrev pub with_nodes : List ℕ → Sorted → Sorted
with_nodes v s = record s { nodes = s.nodes ++ v ∷ [] }

abbrev pub with_cubes : List ℕ → Sorted → Sorted
with_cubes v s = record s { cubes = s.cubes ++ v ∷ [] }

-- a word of the form `--nodes=V` or `--cubes=V`
abbrev pub with_joined : List ℕ → Sorted → Option Sorted
with_joined w s = elim (behind (codes "--nodes=") w) [
  | Some v ↦ Some (with_nodes v s)
  | None ↦ elim (behind (codes "--cubes=") w) [ Some v ↦ Some (with_cubes v s) | None ↦ None ]
]

-- `--nodes` or `--cubes`, with the word behind it
abbrev pub with_value : List ℕ → List ℕ → Sorted → Option Sorted
with_value w v s =
    if bytes_eq w (codes "--nodes") then Some (with_nodes v s)
    else if bytes_eq w (codes "--cubes") then Some (with_cubes v s)
    else None

-- whether a word is an option whose value is the next word
abbrev pub takes_value : List ℕ → Bool
takes_value w = if bytes_eq w (codes "--nodes") then true else bytes_eq w (codes "--cubes")

-- Words are sorted from left to right. After `--` every word is positional. None where a word is an unknown option, or an option lacks its value.
abbrev pub sorted : List (List ℕ) → Sorted → Option Sorted
sorted [] s = Some s
sorted (w ∷ []) s =
    if bytes_eq w (codes "--") then Some s
    else if is_positional w then Some (with_positional w s)
    else with_joined w s
sorted (w ∷ v ∷ ws) s =
    if bytes_eq w (codes "--") then Some (with_all (v ∷ ws) s)
    else if is_positional w then sorted (v ∷ ws) (with_positional w s)
    else if takes_value w then elim (with_value w v s) [ Some t ↦ sorted ws t | None ↦ None ]
    else elim (with_joined w s) [ Some t ↦ sorted (v ∷ ws) t | None ↦ None ]

-- ---- numbers

-- a decimal digit
abbrev pub is_digit : ℕ → Bool
is_digit b = nat_le 48 b && nat_le b 57

-- the number of a list of digits, behind those that were read
abbrev pub digits_number : ℕ → List ℕ → ℕ
digits_number n [] = n
digits_number n (b ∷ bs) = digits_number (n * 10 + (b - 48)) bs

-- one to nine decimal digits
abbrev pub is_number : List ℕ → Bool
is_number bs = nat_le 1 (length bs) && nat_le (length bs) 9 && list_all is_digit bs

-- the number of a word, where it is one, and at least 1 and at most this
abbrev pub number_to : ℕ → List ℕ → Option ℕ
number_to most bs = if is_number bs && nat_le 1 (digits_number 0 bs) && nat_le (digits_number 0 bs) most then Some (digits_number 0 bs) else None

-- the number of an option that is given at most once, or its default
abbrev pub option_number : ℕ → ℕ → List (List ℕ) → Option ℕ
option_number default most [] = Some default
option_number default most (v ∷ []) = number_to most v
option_number default most (v ∷ w ∷ vs) = None

-- ---- the job

-- the numbers of the options
abbrev pub options : Sorted → Option Opts
options s = elim (option_number default_options.nodes 16000000 s.nodes) [
  | Some nodes ↦ elim (option_number default_options.cubes 100000 s.cubes) [ Some cubes ↦ Some (record { nodes = nodes; cubes = cubes }) | None ↦ None ]
  | None ↦ None
]

-- no word
abbrev pub is_none : List (List ℕ) → Bool
is_none [] = true
is_none (w ∷ ws) = false

-- the job of a command on a model alone; `check` and `vacuity` take no `--cubes`
abbrev pub model_job : List ℕ → List (List ℕ) → List ℕ → Opts → Option Job
model_job command cubes model opts =
    if bytes_eq command (codes "init") then Some (Init model opts)
    else if bytes_eq command (codes "reach") then Some (Reach model opts)
    else if not (is_none cubes) then None
    else if bytes_eq command (codes "check") then Some (Check model opts)
    else if bytes_eq command (codes "vacuity") then Some (Vacuity model opts)
    else None

-- a replay has one file behind the model
abbrev pub replay_job : List ℕ → List (List ℕ) → Option Job
replay_job model [] = None
replay_job model (evidence ∷ []) = Some (Replay model evidence)
replay_job model (evidence ∷ more ∷ rest) = None

-- the job of a command on a model and the words behind it; `replay` takes no options
abbrev pub behind_job : List ℕ → Sorted → List ℕ → List (List ℕ) → Opts → Option Job
behind_job command s model rest opts =
    if bytes_eq command (codes "cover") then Some (Cover model rest opts)
    else if not (is_none s.nodes) then None
    else if not (is_none s.cubes) then None
    else if bytes_eq command (codes "replay") then replay_job model rest
    else None

-- the job of a command on its positional words: the first is the model, and behind it stand signals, or the file of evidence
abbrev pub command_job : List ℕ → Sorted → Opts → Option Job
command_job command s opts = elim s.positional [
  | [] ↦ None
  | model ∷ [] ↦ model_job command s.cubes model opts
  | model ∷ word ∷ words ↦ behind_job command s model (word ∷ words) opts
]

-- the job of a command and its sorted words
abbrev pub sorted_job : List ℕ → Sorted → Option Job
sorted_job command s = elim (options s) [ Some opts ↦ command_job command s opts | None ↦ None ]

-- the job of words as bytes: the first is the command
abbrev pub job_of : List (List ℕ) → Option Job
job_of [] = None
job_of (command ∷ words) = elim (sorted words nothing) [ Some s ↦ sorted_job command s | None ↦ None ]

-- the job of the words
abbrev pub job : List (String Global) → Option Job
job words = job_of (map string_bytes words)
