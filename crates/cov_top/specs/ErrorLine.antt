-- The one line on the error stream.
use Rattle.std.specs.Prelude.{ℕ, ◌⊎◌, List, [], ◌++◌, codes, decimal, Option, None, Some}
use Rattle.cov_syntax.specs.declared.words.Word.{Word}
use Rattle.cov_syntax.specs.Words.{word_spelling}
use Rattle.cov_syntax.specs.Faults.{name_of}
use Rattle.cov_evid.specs.Faults.{name_of as evidence_name_of}
use Rattle.cov_evid.specs.declared.fault.EvidFault.{EvidFault}
use Rattle.cov_io.specs.Outside.{Rose, Gains}
use Rattle.cov_jobs.specs.declared.fault.AskFault.TheVariants.{UnknownSignal}
use Rattle.cov_space.specs.declared.fault.NodesFull.{NodesFull}
use Rattle.cov_top.specs.Transfer.{GainsPart}
use Rattle.cov_top.specs.declared.status.Status.{Status}
use Rattle.cov_top.specs.declared.status.Status.TheVariants.{Done, Fails, Words, Input, Read, Write, Nodes, Memory, Asked}
use Rattle.cov_top.specs.declared.status.InputFault.TheVariants.{Model, Evidence}

-- a space and a word, where there is one
abbrev pub behind_space : Option Word → List ℕ
behind_space None = []
behind_space (Some w) = codes " " ++ word_spelling w

-- the line on a fault of a model, by its code, the line and column of its place, and the left-out word there
abbrev pub model_line : ℕ → ℕ → ℕ → Option Word → List ℕ
model_line code line column word = codes "model: " ++ name_of code ++ codes " at " ++ decimal line ++ codes ":" ++ decimal column ++ behind_space word ++ codes "\n"

-- the line on a fault of evidence, by its name and the number of its line
abbrev pub evidence_line : EvidFault → List ℕ
evidence_line f = codes "evidence: " ++ evidence_name_of f.code ++ codes " at line " ++ decimal f.line ++ codes "\n"

-- the line on nodes that ran out: how many stood, how many may, and how many sets were kept
abbrev pub nodes_line : NodesFull → List ℕ
nodes_line full = codes "nodes: held " ++ decimal full.held ++ codes ", budget " ++ decimal full.budget ++ codes ", roots " ++ decimal full.roots ++ codes "\n"

-- the line on a signal that the model does not have
abbrev pub signal_line : List ℕ → List ℕ
signal_line signal = codes "asked: UnknownSignal " ++ signal ++ codes "\n"

-- the line of a status; the line, the column and the word count where a model's fault is told, and the signal where one is unknown
abbrev pub error_line : Status → ℕ → ℕ → Option Word → List ℕ → List ℕ
error_line Done line column word signal = []
error_line Fails line column word signal = []
error_line Words line column word signal = codes "usage: covsmv COMMAND MODEL [SIGNAL..] [OPTIONS]\n"
error_line (Input (Model f)) line column word signal = model_line f.code line column word
error_line (Input (Evidence f)) line column word signal = evidence_line f
error_line Read line column word signal = codes "read failed\n"
error_line Write line column word signal = codes "write failed\n"
error_line (Nodes full) line column word signal = nodes_line full
error_line Memory line column word signal = codes "out of memory\n"
error_line (Asked (UnknownSignal place)) line column word signal = signal_line signal

-- a name, and nothing where there is none
abbrev pub named : Option (List ℕ) → List ℕ
named None = []
named (Some name) = name

-- the line was put, or a front of it where the sink failed
abbrev pub PutsLine : Option (List ℕ) → Option (List ℕ) → ℕ → ℕ → List ℕ → Type 0
PutsLine old new before now line = Gains old new line ⊎ (Rose before now × GainsPart old new line)
