mod Sequels
