use Rattle.log_disk.proofs.Steps.{grows_told, grows_write, grows_sync}
use Rattle.log_disk.proofs.Times.{continues_told, continues_write, continues_sync}
use Rattle.log_disk.proofs.Sound.{sound_read, sound_write, sound_sync, sound_failure, sound_opens, sound_closes, sound_silent, sound_new}
use Rattle.log_disk.proofs.laws.calls_law.Goals as goal

pub returns-clause-grow : goal.returns-clause-grow
returns-clause-grow c = λ region at bytes failed regions eye old new.
    (λ r. grows_told old new r.told, λ w. grows_write w, λ s. grows_sync s, λ f. grows_told old new f.told, λ o. grows_told old new o.told, λ e. grows_told old new e.told)

pub returns-clause-sound : goal.returns-clause-sound
returns-clause-sound c = λ region at bytes failed regions eye old new sound.
    (λ r. sound_read r sound, λ w. sound_write w sound, λ s. sound_sync s sound, λ f. sound_failure f sound, λ o. sound_opens o sound, λ e. sound_closes e sound)

pub returns-clause-continues : goal.returns-clause-continues
returns-clause-continues c = λ region at bytes failed regions eye old new.
    (λ r. continues_told old new r.told, λ w. continues_write w, λ s. continues_sync s, λ f. continues_told old new f.told, λ o. continues_told old new o.told, λ e. continues_told old new e.told)

pub returns-clause-fresh : goal.returns-clause-fresh
returns-clause-fresh c = λ regions region_len image. (sound_silent regions region_len, sound_new regions region_len image)
