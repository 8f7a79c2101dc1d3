-- What the work of a subcommand meets, as a source, a sink and a host hold it; the machine that the program runs on; a host and a folder
-- in memory.
use Rattle.std.specs.Prelude.{◌≡◌, ◌++◌, ℕ, List, Option, Some, None, map, if◌then◌else◌}
use Rattle.std.specs.Str.{bytes_eq}
use Rattle.rbac_sets.specs.Stream.{failed_in_memory as failed_writes_of, left_in_memory, written_in_memory}
use Rattle.rbac_sets.specs.declared.sink.MemorySink.{MemorySink}
use Rattle.rbac_sets.specs.declared.sink.Sink as sink
use Rattle.rbac_sets.specs.declared.source.Source as source
use Rattle.role_cli.specs.Environment.{CsvTexts, Environment}
use Rattle.role_cli.specs.Paths.{Paths}
use Rattle.role_cli.specs.ServedConnections.{Clients, SentReply}
use Rattle.role_cli.specs.declared.folder.Entry.{Entry}
use Rattle.role_cli.specs.declared.folder.Entry.TheVariants as entry
use Rattle.role_cli.specs.declared.host.Accept as accept
use Rattle.role_cli.specs.declared.host.CsvFiles as csv_files
use Rattle.role_cli.specs.declared.machine.Machine.{Machine}
use Rattle.role_cli.specs.declared.memory_folder.MemoryFolder.{MemoryFolder}
use Rattle.role_cli.specs.declared.memory_host.MemoryHost.{MemoryHost}

-- the input and the output as they are now, beside these CSV files, the count of those that could not be read, and these clients
abbrev pub environment_of : {R W : Type 0} → source.Ghosts R → sink.Ghosts W → R → W → CsvTexts → ℕ → Clients → Environment
environment_of input output source out csv_at failed_csv clients = record {
  remaining = input.remaining source;
  reads = input.reads source;
  failed_reads = input.failed source;
  written = output.written out;
  failed_writes = output.failed out;
  idle_writes = output.idle out;
  csv_at = csv_at;
  failed_csv = failed_csv;
  clients = clients;
}

-- the input, the output, the CSV files and the clients, as they are now
abbrev pub around : {R W H : Type 0} → source.Ghosts R → sink.Ghosts W → csv_files.Ghosts H → accept.Ghosts H → R → W → H → Environment
around input output files clients source out host =
    environment_of input output source out (files.csv_at host) (files.failed_csv host) (clients.clients host)

-- nothing of it was touched
abbrev pub IsUntouched : {R W H : Type 0} → (source now_source : R) (out now_out : W) (host now_host : H) → Type 0
IsUntouched source now_source out now_out host now_host = (now_source ≡ source) × (now_out ≡ out) × (now_host ≡ host)

-- clients of whom this is known, and not what they send and are sent
abbrev pub known_clients : Option ℕ → ℕ → ℕ → Clients
known_clients port accepted failed = record { listening = port; accepted = accepted; failed = failed; waiting = None; replies = None }

-- what is known of the clients of the machine: all but what they send and are sent
abbrev pub clients_on_machine : Machine → Clients
clients_on_machine machine = known_clients machine.port machine.accepted machine.failed

-- there is a text at this path, and none elsewhere
abbrev pub text_at : List ℕ → List ℕ → CsvTexts
text_at path text other = if bytes_eq other path then Some text else None

-- the CSV file of a host in memory
abbrev pub csv_in_memory : MemoryHost → CsvTexts
csv_in_memory host = text_at host.path.now host.text.now

-- what a client was sent through a sink in memory
abbrev pub sent_in_memory : MemorySink → SentReply
sent_in_memory sink = record { bytes = written_in_memory sink; failed_writes = failed_writes_of sink }

-- all is known of its clients
abbrev pub clients_in_memory : MemoryHost → Clients
clients_in_memory host = record {
  listening = host.port;
  accepted = host.accepted;
  failed = host.failed;
  waiting = Some (map left_in_memory host.waiting.items);
  replies = Some (map sent_in_memory host.replies.items);
}

-- one path leads to this, and each other to nothing; the file with an ending is at the path followed by this ending
abbrev pub holds_only : List ℕ → Entry → Paths
holds_only path it = record {
  at = λ other. if bytes_eq other path then it else entry.Nothing;
  beside = λ other ending. other ++ ending;
}

-- the paths of a folder in memory, and what they led to when a store was last opened, or at first
abbrev pub paths_in_memory : MemoryFolder → Paths
paths_in_memory folder = holds_only folder.path.now folder.entry

abbrev pub settled_in_memory : MemoryFolder → Paths
settled_in_memory folder = holds_only folder.path.now folder.settled

-- This holds of what the program met on its machine, where it had listened on no port and read nothing before. No text there is known.
abbrev pub OnMachine : {R W : Type 0} → source.Ghosts R → sink.Ghosts W → (Environment → Environment → Type 0)
    → (source : R) (out : W) (now_source : R) (now_out : W) → Type 0
OnMachine input output Holds source out now_source now_out = (machine : Machine)
    × Holds (environment_of input output source out (λ _. None) 0 (known_clients None 0 0))
    (environment_of input output now_source now_out (λ _. None) machine.failed_csv (clients_on_machine machine))
