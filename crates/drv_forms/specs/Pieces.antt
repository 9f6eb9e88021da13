use Rattle.drv_forms.specs.declared.pieces.Piece.TheVariants.{Claim, Driver, EndFault, EndPipe, Fault, Folder, Into, Keep, NewStem}
use Rattle.drv_forms.specs.declared.pieces.Piece.TheVariants.{NotStarted, Opening, Pipe, Run, Say, Start, Status, Stem}
use Rattle.drv_forms.specs.declared.pieces.Piece.TheVariants.{Then, ThenNext, ToError, Unless}
use Rattle.drv_forms.specs.declared.pieces.Piece.{Piece}
use Rattle.std.specs.Prelude.{◌++◌, List, codes, ℕ}

-- The fixed texts of a script of the shell (POSIX XCU 2 "Shell Command Language", and there 2.14 "exec", "set", "trap"; XCU 4 "command").
-- For clauses of src/pieces.rt.

unfoldable pub text : Piece → List ℕ
-- the head of the script: its functions, and what is removed at its end. The positional parameters are those files; 4 is standard output,
-- which a pipe's last command gets back. A command is a program, looked for along PATH as exec does, and no word, function or utility of
-- the shell's own. A signal is noted, and the script ends outside of functions, which have other parameters.
text Opening =
    codes "#!/bin/sh\n"
    ++ codes "set -e\n"
    ++ codes "{ command exec 4>&1; } 2>/dev/null || exec 4>/dev/null\n"
    ++ codes "set --\n"
    ++ codes "gdrv_failed= gdrv_started= gdrv_stopped= gdrv_pipe= gdrv_file= gdrv_folder= gdrv_stem=\n"
    ++ codes "remove() { for gdrv_file; do if test -f \"$gdrv_file\" && ! test -L \"$gdrv_file\"; then rm -f -- \"$gdrv_file\"; fi; done; }\n"
    ++ codes "claim() { (umask 077; set -C; printf %s \"$2\" >\"$1\"); }\n"
    ++ codes "is_program() { test -f \"$1\" && test -x \"$1\"; }\n"
    ++ codes "is_found() (\n"
    ++ codes "case $1 in -*) exit 1 ;; */*) is_program \"$1\" && exit 0 || exit 1 ;; esac\n"
    ++ codes "set -f; IFS=:; gdrv_file=$PATH:\n"
    ++ codes "for gdrv_file in $gdrv_file; do if is_program \"${gdrv_file:-.}/$1\"; then exit 0; fi; done; exit 1\n"
    ++ codes ")\n"
    ++ codes "starts() { test -z \"$gdrv_stopped\" && is_found \"$1\" && gdrv_started=yes; }\n"
    ++ codes "run() { starts \"$1\" && (exec \"$@\" 4>&-) && test -z \"$gdrv_stopped\"; }\n"
    ++ codes "member() { (exec \"$@\" 3>&- 4>&-) || echo failed >&3; }\n"
    ++ codes "trap 'remove \"$@\" || :; test -z \"$gdrv_folder\" || rmdir -- \"$gdrv_folder\" || :' EXIT\n"
    ++ codes "trap gdrv_stopped=yes HUP INT TERM\n"
-- the stem of temporaries is
text Stem = codes "gdrv_stem="
-- a private folder is made beside them, by this template
text Folder = codes "\ngdrv_folder=$(mktemp -d --"
-- where it is made, the stem is its name between slashes
text NewStem = codes ") && gdrv_stem=/${gdrv_folder##*/}/\n"
-- a notice is said
text Say = codes "printf '%s\\n'"
-- who says it
text Driver = codes "gdrv: "
-- it is said on standard error
text ToError = codes " >&2 || :\n"
-- a file is put among those that are removed at the end
text Keep = codes "set -- \"$@\""
-- a temporary is claimed
text Claim = codes "claim"
-- what follows is done where that was
text Then = codes " && "
-- so is the next line
text ThenNext = codes " &&\n"
-- a command that is in no pipe is run
text Run = codes "run"
-- the first command of a pipe is looked for
text Start = codes "starts"
-- a pipe begins
text Pipe = codes " && gdrv_pipe=$({ member"
-- a further command of a pipe
text Into = codes " | member"
-- a pipe ends, and fails where a command of it did
text EndPipe = codes " >&4; } 3>&1) && test -z \"$gdrv_pipe$gdrv_stopped\" &&\n"
-- a job begins, unless a signal has come; no command of it was started yet
text NotStarted = codes "test -z \"$gdrv_stopped\" || exit 1\ngdrv_started=\n"
-- what a fault of a job does: its failure files are removed if a command of it was started
text Fault = codes ": || {\ngdrv_failed=yes\ntest -z \"$gdrv_started\" || remove"
-- that ends
text EndFault = codes " || :\n}\n"
-- the link is run where no source failed
text Unless = codes "test -z \"$gdrv_failed\" || exit 1\n"
-- the status
text Status = codes "test -z \"$gdrv_failed\"\n"
