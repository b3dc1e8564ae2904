mod FreshDevices
